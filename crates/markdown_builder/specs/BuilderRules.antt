-- The rules that a builder keeps for each number and each link of its tree: those of a block result, each as
-- `KeepsRules` states it under the same name, for one item below another or after it; and that each chain is of one
-- kind, from which the rules follow for chains of any length.
use Rattle.std.specs.Prelude.{◌≡◌, ℕ, ◌<◌, ◌≤◌, Bool, true, false, List, Some, IfSome, length}
use Rattle.markdown_base.specs.declared.item.Item.{Item}
use Rattle.markdown_base.specs.declared.item.ItemBody.TheVariants as body
use Rattle.markdown_base.specs.declared.node.Node.{Node}
use Rattle.markdown_base.specs.ArenaForest.{links_of}
use Rattle.markdown_base.specs.ArenaRules.{next_at}
use Rattle.markdown_base.specs.BlockTree.{Numbered, item_at, numbered}
use Rattle.markdown_base.specs.Forest.{nil, node}
use Rattle.markdown_base.specs.Item.{LiesIn, is_inline, is_childless, is_resolved, text_named, alignments_named}
use Rattle.markdown_base.specs.WellFormed.{BlocksAreSettled, ChainsAreKept, InlineInOrder, MarkupIsThere}
use Rattle.markdown_base.specs.WellFormed.{PartCounts, PartsAreNamed, RunsAreWhole}
use Rattle.markdown_builder.specs.Bodies.{is_leaf}
use Rattle.markdown_builder.specs.Rising.{link_of, AreRising}

-- the rules of one item by itself, with nothing below it
pub record ItemFits (text : List ℕ) (counts : PartCounts) (item : Item) : Type 0 where
  pub ranges_lie_in : LiesIn text item
  pub nothing_resolved : is_resolved item.body ≡ false
  pub markup_is_there : MarkupIsThere text item
  pub parts_are_named : PartsAreNamed counts item.body
  pub blocks_are_settled : BlocksAreSettled item.body nil

-- the rules of an item and its first child: inline items occur only in leaves
pub record StandsUnder (a b : Numbered) : Type 0 where
  pub kind : is_inline b.item.body ≡ is_leaf a.item.body
  pub chains_are_kept : ChainsAreKept a.item.body (node b nil nil)

-- the rules of an item and the next one: both are of one kind
pub record StandsAfter (a b : Numbered) : Type 0 where
  pub kind : is_inline b.item.body ≡ is_inline a.item.body
  pub inline_in_order : InlineInOrder a (Some b)

-- the rules at a link
abbrev pub LinkFits : Bool → Numbered → Numbered → Type 0
LinkFits true a b = StandsUnder a b
LinkFits false a b = StandsAfter a b

-- the rules at each number and link, except that of delimiter runs
pub record KeepsNodes (text : List ℕ) (counts : PartCounts) (nodes : List (Node Item)) : Type 0 where
  pub rising : AreRising (links_of nodes)
  pub rooted : 0 < length nodes
  pub root : (item_at nodes 0).body ≡ body.Root
  pub items : (i : ℕ) → 0 < i → i < length nodes → ItemFits text counts (item_at nodes i)
  pub links : (down : Bool) (i j : ℕ) → link_of (links_of nodes) down i ≡ Some j
      → LinkFits down (numbered nodes i) (numbered nodes j)
  pub texts : (i j t : ℕ) → text_named (item_at nodes i).body ≡ Some t → text_named (item_at nodes j).body ≡ Some t
      → i ≡ j
  pub alignments : (i j t : ℕ) → alignments_named (item_at nodes i).body ≡ Some t
      → alignments_named (item_at nodes j).body ≡ Some t → i ≡ j

-- the rule of delimiter runs
abbrev pub KeepsRuns : List ℕ → List (Node Item) → Type 0
KeepsRuns text nodes = (i : ℕ) → RunsAreWhole text (numbered nodes i) (next_at nodes i)

-- the parts that an item refers to are new
pub record NamesNew (counts : PartCounts) (item : Item) : Type 0 where
  pub texts : IfSome (text_named item.body) (λ ix. counts.texts ≤ ix)
  pub alignments : IfSome (alignments_named item.body) (λ ix. counts.alignments ≤ ix)

-- an item can be replaced by another: of the same kind, referring to no other parts, and with the same range where it
-- is inline
pub record MayReplace (a b : Item) : Type 0 where
  pub inline : is_inline b.body ≡ is_inline a.body
  pub leaf : is_leaf b.body ≡ is_leaf a.body
  pub childless : is_childless b.body ≡ is_childless a.body
  pub texts : (t : ℕ) → text_named b.body ≡ Some t → text_named a.body ≡ Some t
  pub alignments : (t : ℕ) → alignments_named b.body ≡ Some t → alignments_named a.body ≡ Some t
  pub start : is_inline a.body ≡ true → b.start ≡ a.start
  pub end : is_inline a.body ≡ true → b.end ≡ a.end
