-- The reading of a tree with open chains in it: its events with their ranges, in preorder, and the questions between
-- them.
use Rattle.std.specs.Prelude.{ℕ, List, [], ◌++◌, map}
use Rattle.std.specs.declared.ops.Range.{Range}
use Rattle.markdown_base.specs.Event.{start, end, tag_end, hard_break}
use Rattle.markdown_base.specs.Forest.{Forest, nil, node}
use Rattle.markdown_document.specs.Document.{Notes, Shape, leaf, enclosed, plain, backslash_break, unresolved, TreeNode}
use Rattle.markdown_inline.specs.Elements.{Element, question, Reading, then_reads}
use Rattle.markdown_resolver.specs.ChainCounts.{chain_counts}
use Rattle.markdown_resolver.specs.PassOne.{Outcome}
use Rattle.markdown_resolver.specs.Resolved.{resolved, all_paired}
use Rattle.markdown_document.specs.EnclosingBlocks.{EnclosingBlocks, inside_node}
use Rattle.markdown_document.specs.Setting.{Setting}

-- the reading of a tree with this range: `inside` reads what is below the tree and then what follows, `after` is the
-- reading of what follows the tree, and `whole` that of the chain from this tree on, where the tree is open
abbrev pub reading_opened : Shape → Range ℕ → (inside : Reading → Reading) → (after whole : Reading) → Reading
reading_opened (leaf e origins) range inside after whole = then_reads (e, range, origins) after
reading_opened (enclosed tag origins) range inside after whole = then_reads (start tag, range, origins)
    (inside (then_reads (end (tag_end tag), range, []) after))
reading_opened plain range inside after whole = inside after
reading_opened backslash_break range inside after whole = then_reads (hard_break, range, []) after
reading_opened (unresolved b) range inside after whole = whole

-- the reading of a forest without open items, and of what comes after it
abbrev pub closed_reading : {A : Type 0} → Forest (TreeNode A) → Reading → Reading
closed_reading nil after = after
closed_reading (node a below later) after =
    reading_opened a.part.shape a.part.range (λ inner. closed_reading below inner) (closed_reading later after)
    (closed_reading later after)

-- the questions of a chain, then the reading of the forest that it is resolved to, and then what comes after it, with
-- what is known then
abbrev pub then_resolved : {A : Type 0} → Setting → Outcome A → Reading → List Element
then_resolved s r after = map question r.questions ++ (closed_reading (all_paired s r.forest) after r.state).elements

-- the reading of a chain from its first open item on, with its counts, and of what comes after it
abbrev pub chain_reading : {A : Type 0} → Setting → Notes A → EnclosingBlocks → Forest (TreeNode A) → Reading → Reading
chain_reading s notes above chain after state = record {
  elements = then_resolved s (resolved s notes above chain state) after;
  counts = chain_counts s notes above chain state;
}

-- the reading of a forest, below the blocks that are open above it, and of what comes after it: a chain is resolved
-- from its first open item on
abbrev pub reading : {A : Type 0} → Setting → Notes A → EnclosingBlocks → Forest (TreeNode A) → Reading → Reading
reading s notes above nil after = after
reading s notes above (node a below later) after =
    reading_opened a.part.shape a.part.range (λ inner. reading s notes (inside_node a above) below inner)
    (reading s notes above later after)
    (chain_reading s notes above (node a below later) after)
