-- What is required of each item of an arena, by the number of its node.
use Rattle.std.specs.Prelude.{◌≡◌, ℕ, List, ⊤}
use Rattle.markdown_base.specs.declared.item.ItemBody.TheVariants as body
use Rattle.markdown_base.specs.Arena.{child_of, sibling_of}
use Rattle.markdown_base.specs.ArenaRules.{next_at}
use Rattle.markdown_base.specs.BlockTree.{item_at, numbered}
use Rattle.markdown_base.specs.Item.{LiesIn}
use Rattle.markdown_base.specs.declared.item.Item.{Item}
use Rattle.markdown_base.specs.declared.item.ItemBody.{ItemBody}
use Rattle.markdown_base.specs.declared.node.Node.{Node}
pub use Rattle.markdown_document.specs.Origins.{IsSlicedOf}
use Rattle.markdown_document.specs.Origins.{origin_at}
use Rattle.markdown_document.specs.ItemRules.{KeepsItemRules}
use Rattle.markdown_document.specs.LinkOrigins.{IsLinkFrom}
use Rattle.markdown_document.specs.Tables.{Tables, text_at, link_at}
use Rattle.markdown_document.specs.NamedEntries.{NamesEntries, link_origins_at}
use Rattle.markdown_document.specs.Places.{origin_start}

-- the text with this number, where it is borrowed, is a slice of the source within these byte offsets
abbrev pub HasSliceText : List ℕ → Tables → (start end : ℕ) → ℕ → Type 0
HasSliceText source tables start end n =
    IsSlicedOf source start end (origin_at tables.cows n) (text_at tables.cows n)

-- the destination and the title of the link with this number come from the source within these byte offsets, as the
-- link's type says
abbrev pub HasSliceLink : List ℕ → Tables → (start end : ℕ) → ℕ → Type 0
HasSliceLink source tables start end n =
    IsLinkFrom source start end (link_origins_at tables.links n) (link_at tables.links n)

-- what a body refers to comes from the source within these byte offsets, where it has to: the text of code and math
-- where it is borrowed, and the destination and the title of a link or an image as its type says
abbrev pub HasSlices : List ℕ → Tables → (start end : ℕ) → ItemBody → Type 0
HasSlices source tables start end (body.Code ix) = HasSliceText source tables start end ix.0
HasSlices source tables start end (body.Math ix display) = HasSliceText source tables start end ix.0
HasSlices source tables start end (body.Link ix) = HasSliceLink source tables start end ix.0
HasSlices source tables start end (body.Image ix) = HasSliceLink source tables start end ix.0
HasSlices source tables start end other = ⊤

-- what an item refers to comes from the source where the item is
abbrev pub ComesFromPlace : List ℕ → Tables → Item → Type 0
ComesFromPlace source tables item = HasSlices source tables (origin_start source item.start) item.end item.body

-- the item of the node with this number lies in the text, refers to entries that exist and come from the source where
-- it is, and keeps the rules of items
pub record IsPlaced (source : List ℕ) (tables : Tables) (nodes : List (Node Item)) (ix : ℕ) : Type 0 where
  pub lies : LiesIn source (item_at nodes ix)
  pub named : NamesEntries tables (item_at nodes ix).body
  pub slices : ComesFromPlace source tables (item_at nodes ix)
  pub keeps : KeepsItemRules source (numbered nodes ix) (child_of nodes ix) (next_at nodes ix)

-- the node with this number is the same in both arenas
pub record IsSameAt (nodes nodes' : List (Node Item)) (n : ℕ) : Type 0 where
  pub child : child_of nodes' n ≡ child_of nodes n
  pub next : sibling_of nodes' n ≡ sibling_of nodes n
  pub item : item_at nodes' n ≡ item_at nodes n
