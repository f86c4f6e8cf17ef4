-- Small facts of numbers, texts and shapes in an arena.
use Rattle.markdown_base.specs.declared.item.ItemBody.TheVariants as body
use Rattle.std.proofs.Common.{◌≡◌, ℕ, ◌≤◌, Bool, true, false, List, Option, None, refl, arith}
use Rattle.markdown_base.specs.ArenaForest.{Links, Spells}
use Rattle.markdown_base.specs.BlockTree.{item_at}
use Rattle.markdown_base.specs.Forest.{Forest, nil, node, Each}
use Rattle.markdown_base.specs.Item.{is_open, text_named}
use Rattle.markdown_base.specs.declared.item.Item.{Item}
use Rattle.markdown_base.specs.declared.item.ItemBody.{ItemBody}
use Rattle.markdown_base.specs.declared.node.Node.{Node}
use Rattle.markdown_document.specs.PlacedNodes.{HasSlices, IsPlaced}
use Rattle.markdown_document.specs.Document.{unresolved, is_unresolved, shape_of}
use Rattle.markdown_document.specs.Totals.{total, same, weight_if}
use Rattle.markdown_document.specs.NamedEntries.{naming, times_named, Named, some_text, some_link, link_named}
use Rattle.markdown_document.specs.NamedEntries.{number_of, size_for}
use Rattle.markdown_document.specs.Tables.{Tables}
use Rattle.markdown_document.proofs.TablesLemmas.{same-refl, same-apart, named-apart}

-- numbers that no node has occur nowhere
pub times-past : (k : Links) (l : Option ℕ) (f : Forest ℕ) (n : ℕ) → Spells k l f → k.size ≤ n → total (same n) f ≡ 0
times-past k l nil n s z = refl
times-past k l (node ix below after) n s z =
    omega (
      arith,
      same-apart n ix (omega (arith, s.1, z)),
      times-past k (k.child ix) below n s.2 z,
      times-past k
          (k.next ix) after n s.3 z,
    )

-- entries that are in no table are named nowhere
pub named-past : (source : List ℕ) (tables : Tables) (nodes : List (Node Item)) (f : Forest ℕ) (n : Named)
    → Each (IsPlaced source tables nodes) f → size_for tables n ≤ number_of n
    → total (naming nodes n) f ≡ 0
named-past source tables nodes nil n h z = refl
named-past source tables nodes (node ix below after) n h z =
    omega (
      arith,
      named-apart n tables (item_at nodes ix).body h.0.named z,
      named-past source tables nodes below n h.1 z,
      named-past source
          tables nodes after n h.2 z,
    )

-- what refers to no text and no link has no slice
pub slices-unnamed : (source : List ℕ) (tables : Tables) (start end : ℕ) (b : ItemBody) → text_named b ≡ None
    → link_named b ≡ None
    → HasSlices source tables start end b
slices-unnamed source tables start end (body.Code ix) h e = cc h
slices-unnamed source tables start end (body.Math ix display) h e = cc h
slices-unnamed source tables start end (body.Link ix) h e = cc e
slices-unnamed source tables start end (body.Image ix) h e = cc e
slices-unnamed source tables start end other h e = tt

pub slices-none : (source : List ℕ) (tables : Tables) (start end : ℕ) (b : ItemBody)
    → ((n : Named) → times_named n b ≡ 0)
    → HasSlices source tables start end b
slices-none source tables start end (body.Code ix) h = let none = h (some_text ix.0) in absurd
    (omega (arith, none, same-refl ix.0))
slices-none source tables start end (body.Math ix display) h = let none = h (some_text ix.0) in absurd
    (omega (arith, none, same-refl ix.0))
slices-none source tables start end (body.Link ix) h = let none = h (some_link ix.0) in absurd
    (omega (arith, none, same-refl ix.0))
slices-none source tables start end (body.Image ix) h = let none = h (some_link ix.0) in absurd
    (omega (arith, none, same-refl ix.0))
slices-none source tables start end other h = tt

-- an open item is not read before its chain is resolved
pub shape-open : (tables : Tables) (source : List ℕ) (b : ItemBody) → is_open b ≡ true → shape_of tables source b
    ≡ unresolved b
shape-open tables source body.Paragraph h = cc h
shape-open tables source other h = cc h

-- what is not read before its chain is resolved is open
pub open-unresolved : (tables : Tables) (source : List ℕ) (b : ItemBody) → is_unresolved (shape_of tables source b)
    ≡ true
    → is_open b ≡ true
open-unresolved tables source body.Paragraph h = cc h
open-unresolved tables source (body.HardBreak true) h = cc h
open-unresolved tables source (body.HardBreak false) h = cc h
open-unresolved tables source other h = cc h

-- the weight of a node is at least two
pub some_weight : (is_open : Bool) → 2 ≤ weight_if is_open
some_weight true = omega arith
some_weight false = omega arith
