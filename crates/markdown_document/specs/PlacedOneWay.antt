-- An item is placed in at most one way, as a type needs whose values carry that proof. Each `-prop` says that its fact
-- has at most one proof.
use Rattle.std.specs.Prelude.{ℕ, List}
use Rattle.std.proofs.Math.Logic.{∥∥₁_prop}
use Rattle.std.proofs.Props.{props}
use Rattle.std.specs.Coded.{Coded-set, Unit-prop, coded_ℕ, coded_list}
use Rattle.markdown_base.specs.Event.{LinkView}
use Rattle.markdown_base.specs.declared.tag.LinkType.{LinkType}
use Rattle.markdown_base.specs.declared.tag.LinkType.TheVariants as kind
use Rattle.markdown_base.specs.declared.item.ItemBody.{ItemBody}
use Rattle.markdown_base.specs.declared.item.ItemBody.TheVariants as body
use Rattle.markdown_base.specs.Arena.{child_of}
use Rattle.markdown_base.specs.ArenaRules.{next_at}
use Rattle.markdown_base.specs.BlockTree.{item_at, numbered}
use Rattle.markdown_base.specs.OneWay.{LiesIn-prop}
use Rattle.markdown_base.specs.declared.item.Item.{Item}
use Rattle.markdown_base.specs.declared.node.Node.{Node}
use Rattle.markdown_document.specs.Origins.{Origin, sliced, origin_at}
use Rattle.markdown_document.specs.PlacedNodes.{IsSlicedOf, HasSlices, IsPlaced}
use Rattle.markdown_document.specs.LinkOrigins.{LinkOrigins, IsSlice, IsTitleFrom, IsLinkFrom}
use Rattle.markdown_document.specs.Tables.{Tables, text_at, link_at}
use Rattle.markdown_document.specs.NamedEntries.{NamesEntries, link_origins_at}
use Rattle.markdown_document.specs.ItemRules.{KeepsItemRules-prop}
use Rattle.markdown_document.specs.Places.{origin_start}

-- `IsSlicedOf` has at most one proof
pub IsSlicedOf-prop : (source : List ℕ) (start end : ℕ) (origin : Origin) (bytes : List ℕ)
    → IsProp (IsSlicedOf source start end origin bytes)
IsSlicedOf-prop source start end origin bytes = hlevel ∥∥₁_prop

-- `IsSlice` has at most one proof
IsSlice-prop : (source : List ℕ) (start end : ℕ) (origin : Origin) (bytes : List ℕ)
    → IsProp (IsSlice source start end origin bytes)
IsSlice-prop source start end sliced bytes = hlevel ∥∥₁_prop
IsSlice-prop source start end other bytes = hlevel

-- `IsTitleFrom` has at most one proof
IsTitleFrom-prop : (source : List ℕ) (start end : ℕ) (link_type : LinkType) (origin : Origin) (title : List ℕ)
    → IsProp (IsTitleFrom source start end link_type origin title)
IsTitleFrom-prop source start end kind.Inline origin title = hlevel ∥∥₁_prop
IsTitleFrom-prop source start end other origin title = Unit-prop

-- `IsLinkFrom` has at most one proof
pub IsLinkFrom-prop : (source : List ℕ) (start end : ℕ) (origins : LinkOrigins) (link : LinkView)
    → IsProp (IsLinkFrom source start end origins link)
IsLinkFrom-prop source start end origins link =
    let slice = IsSlice-prop source start end origins.destination link.destination in
    let title = IsTitleFrom-prop source start end link.kind origins.title link.title in
    hlevel (props, slice, title, Coded-set (coded_list coded_ℕ))

-- `NamesEntries` has at most one proof
pub NamesEntries-prop : (tables : Tables) (b : ItemBody) → IsProp (NamesEntries tables b)
NamesEntries-prop tables b = hlevel props

-- `HasSlices` has at most one proof
pub HasSlices-prop : (source : List ℕ) (tables : Tables) (start end : ℕ) (b : ItemBody)
    → IsProp (HasSlices source tables start end b)
HasSlices-prop source tables start end (body.Code ix) =
    IsSlicedOf-prop source start end (origin_at tables.cows ix.0) (text_at tables.cows ix.0)
HasSlices-prop source tables start end (body.Math ix display) =
    IsSlicedOf-prop source start end (origin_at tables.cows ix.0) (text_at tables.cows ix.0)
HasSlices-prop source tables start end (body.Link ix) =
    IsLinkFrom-prop source start end (link_origins_at tables.links ix.0) (link_at tables.links ix.0)
HasSlices-prop source tables start end (body.Image ix) =
    IsLinkFrom-prop source start end (link_origins_at tables.links ix.0) (link_at tables.links ix.0)
HasSlices-prop source tables start end other = Unit-prop

-- `IsPlaced` has at most one proof
pub IsPlaced-prop : (source : List ℕ) (tables : Tables) (nodes : List (Node Item)) (ix : ℕ)
    → IsProp (IsPlaced source tables nodes ix)
IsPlaced-prop source tables nodes ix =
    let item = item_at nodes ix in
    let lies = LiesIn-prop source item in
    let named = NamesEntries-prop tables item.body in
    let slices = HasSlices-prop source tables (origin_start source item.start) item.end item.body in
    let keeps = KeepsItemRules-prop source (numbered nodes ix) (child_of nodes ix) (next_at nodes ix) in
    hlevel (props, lies, named, slices, keeps)
