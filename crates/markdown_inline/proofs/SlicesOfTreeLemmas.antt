-- The slices of the tree of a block result are in place: those of its chains are, and its other items refer to none.
use Rattle.std.proofs.Common.{◌≡◌, ℕ, true, false, List, refl}
use Rattle.std.specs.Prelude.{slice_range}
use Rattle.markdown_base.specs.BlockTree.{Numbered, tree_of}
use Rattle.markdown_base.specs.Forest.{Forest, nil, node, Each, relabelled}
use Rattle.markdown_base.specs.WellFormed.{AllKeepRules, PartCounts, counts_of}
use Rattle.markdown_blocks.specs.Blocks.{block_parts, block_arena, text_of_blocks}
use Rattle.markdown_document.specs.Document.{Plain, Shape, backslash_break, document, enclosed, is_unresolved, leaf}
use Rattle.markdown_document.specs.Document.{no_notes, plain, tree_node_of, unresolved}
use Rattle.markdown_document.specs.EnclosingBlocks.{EnclosingBlocks, inside_node, no_blocks}
use Rattle.markdown_document.specs.Setting.{ReferenceState, Setting, setting_of}
use Rattle.markdown_document.specs.Tables.{Tables, tables_at_start}
use Rattle.markdown_inline.specs.ParserLeft.{rules_of, state_at_start}
use Rattle.markdown_inline.specs.ResolvedDocument.{Resolving, resolved_chain, resolved_document, resolved_tree}
use Rattle.markdown_inline.specs.SlicesOfTree.{BlockSlicesLaw}
use Rattle.markdown_resolver.specs.Kept.{EachChain}
use Rattle.markdown_resolver.specs.SlicesInPlace.{ResolvesInPlace, SlicesInPlace}
use Rattle.markdown_resolver.proofs.PassOneSlicesLemmas.{refers}
use Rattle.markdown_resolver.proofs.SlicesInPlaceLemmas.{document_in_place, put_around, unresolved_refers}

module _ (s : Setting) where
  abbrev In : Forest Plain → Type 0
  In f = SlicesInPlace s.text false f

  abbrev AllIn : Resolving (Unit {0}) → Type 0
  AllIn r = (state : ReferenceState) → In (r state).trees

  -- a tree, by its shape
  tree_in : (shape : Shape) (a : Plain) (below after chain : Resolving (Unit {0})) → refers a.part.shape ≡ false
      → AllIn below → AllIn after → (is_unresolved shape ≡ true → AllIn chain)
      → AllIn (resolved_tree shape a below after chain)
  tree_in (leaf e origins) a below after chain none inner later whole state =
      put_around s.text false a nil (after state).trees none tt (later state)
  tree_in (enclosed tag origins) a below after chain none inner later whole state =
      put_around s.text false a (below state).trees (after (below state).state).trees none (inner state)
      (later (below state).state)
  tree_in plain a below after chain none inner later whole state =
      put_around s.text false a (below state).trees (after (below state).state).trees none (inner state)
      (later (below state).state)
  tree_in backslash_break a below after chain none inner later whole state =
      put_around s.text false a nil (after state).trees none tt (later state)
  tree_in (unresolved b) a below after chain none inner later whole state = whole refl state

  document_in : (above : EnclosingBlocks) (f : Forest Plain) → EachChain (ResolvesInPlace s) f
      → Each (λ (a : Plain). refers a.part.shape ≡ false) f → AllIn (resolved_document s no_notes above f)
  document_in above nil h none state = tt
  document_in above (node a below later) h none state =
      tree_in a.part.shape a (λ k. resolved_document s no_notes (inside_node a above) below k)
      (λ k. resolved_document s no_notes above later k) (λ k. resolved_chain s no_notes above (node a below later) k)
      none.0 (document_in (inside_node a above) below h.1 none.1) (document_in above later h.2 none.2)
      (λ opens k. h.0 opens above k) state

-- the items of a block result refer to no slices
none_refer : (source : List ℕ) (tables : Tables) (counts : PartCounts) (f : Forest Numbered)
    → AllKeepRules source counts f → Each (λ (a : Plain). refers a.part.shape ≡ false)
    (relabelled (λ (n : Numbered). tree_node_of source tables n.item) f)
none_refer source tables counts nil h = tt
none_refer source tables counts (node a below after) h = (
  unresolved_refers tables (slice_range source a.item.start a.item.end) a.item.body h.0.nothing_resolved,
  none_refer source tables counts below h.1,
  none_refer source tables counts after h.2,
)

pub block_slices-law : BlockSlicesLaw
block_slices-law blocks asks answers =
    let source = text_of_blocks blocks in
    let tables = tables_at_start (block_parts blocks) in
    let nodes = (block_arena blocks).nodes in
    document_in (setting_of source (rules_of blocks asks)) (no_blocks source) (document source tables nodes)
    (document_in_place source nodes (block_parts blocks) tables (rules_of blocks asks) blocks.well_formed)
    (none_refer source tables (counts_of (block_parts blocks)) (tree_of nodes) blocks.well_formed.rules)
    (state_at_start source answers)
