-- An item of a chain that is not a bracket was read in place.
use Rattle.std.specs.Prelude.{◌≡◌, ℕ, ◌+◌, ◌≤◌, Bool, true, false, List}
use Rattle.markdown_base.specs.Arena.{child_of, sibling_of}
use Rattle.markdown_base.specs.declared.item.Item.{Item}
use Rattle.markdown_base.specs.declared.node.Node.{Node}
use Rattle.markdown_document.specs.EnclosingBlocks.{EnclosingBlocks}
use Rattle.markdown_document.specs.ChainRest.{past}
use Rattle.markdown_document.specs.Counts.{risen}
use Rattle.markdown_document.specs.Document.{no_notes}
use Rattle.markdown_document.specs.Places.{tree_node_at, trees_from}
use Rattle.markdown_document.specs.Setting.{Setting}
use Rattle.markdown_document.specs.Tables.{Tables}
use Rattle.markdown_spans.specs.Finds.{Passed, read_tree}
use Rattle.markdown_spans.specs.SpanClosers.{HoldsFrom, Learned}
use Rattle.markdown_spans.specs.declared.span_text.SpanKind.{SpanKind}
use Rattle.markdown_resolver.specs.PutsTrees.{PutsTrees}
use Rattle.markdown_resolver.specs.Rewritten.{LeavesRest, Passes}
use Rattle.markdown_resolver.specs.declared.continuation.Continuation.{Continuation}

-- what is read of the first tree of a chain in an arena
abbrev pub read_at : Setting → EnclosingBlocks → Tables → List (Node Item) → ℕ → Passed (Unit {0})
read_at s above tables nodes ix =
    read_tree s no_notes above 0 (tree_node_at s.text tables nodes ix)
    (trees_from s.text tables nodes (child_of nodes ix))
    (trees_from s.text tables nodes (sibling_of nodes ix))

-- what is read was put in place, and what is left is what follows it, after the end of what was found
pub record ReadsItem (s : Setting) (above : EnclosingBlocks) (ix : ℕ) (rest : Continuation) (old new : List (Node Item))
    (tables tables' : Tables) : Type 0 where
  pub puts : PutsTrees s.text ix rest.next (read_at s above tables old ix).trees
      (past (read_at s above tables old ix).goes_on (trees_from s.text tables old (sibling_of old ix))) old new tables
      tables'
  pub leaves : LeavesRest s.text ix rest.next old new tables'
  pub passes : Passes ix rest old new
  -- what searches have learned of what follows the item is true of what is left
  pub holds : (kind : SpanKind) (learned : Learned) → HoldsFrom kind learned old (sibling_of old ix)
      → HoldsFrom kind learned new rest.next

-- the count of examined items has risen by at most the items of a chain, by none where a search had failed before, and,
-- unless one has failed now, by none of what is left
pub record LooksAt (before after : Bool) (old new items items' : ℕ) : Type 0 where
  pub more : ℕ
  pub counted : new ≡ risen more old
  pub within : more ≤ items
  pub none : before ≡ true → (more ≡ 0) × (after ≡ true)
  pub past : after ≡ false → more + items' ≤ items

-- memory was refused: it has looked at no more than there are
abbrev pub LooksAtMost : (before after : Bool) → (old new items : ℕ) → Type 0
LooksAtMost before after old new items = LooksAt before after old new items 0
