-- Resolving makes no heading: where no heading of a block result contains another, none does in its tree with chains
-- resolved.
use Rattle.std.proofs.Common.{◌≡◌, ℕ, Bool, true, false, List, refl, sym, ap, subst, ◌∙◌}
use Rattle.std.specs.Prelude.{IsTrue, is_some, not}
use Rattle.std.proofs.lemmas.Bool.{true≢false, or_right}
use Rattle.markdown_base.specs.BlockTree.{Numbered, tree_of}
use Rattle.markdown_base.specs.Event.{TagView, heading}
use Rattle.markdown_base.specs.Forest.{Forest, nil, node, Throughout, Each, relabelled}
use Rattle.markdown_base.specs.Item.{is_open, is_inline}
use Rattle.markdown_base.specs.Questions.{Answers}
use Rattle.markdown_base.specs.WellFormed.{AllKeepRules, PartCounts, all_inline, counts_of, has_open}
use Rattle.markdown_base.specs.declared.item.ItemBody.{ItemBody}
use Rattle.markdown_base.specs.declared.item.ItemBody.TheVariants as body
use Rattle.markdown_base.proofs.BoolLemmas.{and_first, and_second}
use Rattle.markdown_base.proofs.WellFormedLemmas.{inline_childless}
use Rattle.markdown_blocks.specs.Blocks.{block_parts, text_of_blocks, block_arena}
use Rattle.markdown_blocks.specs.declared.blocks.Blocks.{Blocks}
use Rattle.markdown_builder.specs.HeadingsHoldInline.{is_heading_block, HeadingsHoldInline}
use Rattle.markdown_document.specs.EnclosingBlocks.{EnclosingBlocks, inside_node, no_blocks}
use Rattle.markdown_document.specs.ChainRest.{cut_shape}
use Rattle.markdown_document.specs.Document.{Shape, leaf, enclosed, plain, backslash_break, unresolved, Plain, document}
use Rattle.markdown_document.specs.Document.{is_unresolved, tree_node_of, no_notes, shape_of}
use Rattle.markdown_document.specs.Setting.{ReferenceState, Setting, setting_of}
use Rattle.markdown_document.specs.Tables.{Tables, tables_at_start}
use Rattle.markdown_document.proofs.PlaceLemmas.{open-unresolved}
use Rattle.markdown_inline.specs.ParserLeft.{state_at_start, rules_of}
use Rattle.markdown_inline.specs.ResolvedDocument.{Resolving, resolved_blocks, resolved_chain, resolved_document}
use Rattle.markdown_inline.specs.ResolvedDocument.{resolved_tree}
use Rattle.markdown_inline.specs.ResolvedShapes.{IsMadeShape, IsMadeTag}
use Rattle.markdown_inline.proofs.ResolvedShapesLemmas.{shapes-law}
use Rattle.markdown_outline.specs.Outline.{tag_heading}
use Rattle.markdown_outline.specs.TreeOutline.{HeadingsApart, HeadingsOfTextsApart}
use Rattle.markdown_outline.proofs.TreeOutlineLemmas.{not_heading, NoHeading, reads_below, AllApart}

-- ---- what chains become

-- what is made is no heading
made_tag : (tag : TagView) → IsMadeTag tag → not (is_some (tag_heading tag)) ≡ true
made_tag (heading h) m = absurd m
made_tag other m = refl

made : (shape : Shape) → IsMadeShape shape → not_heading shape ≡ true
made (enclosed tag origins) m = made_tag tag m
made other m = refl

-- nor is it one by its first bytes
cuts : (n : ℕ) (shape : Shape) → not_heading (cut_shape n shape) ≡ not_heading shape
cuts n (leaf e origins) = refl
cuts n other = refl

-- a chain without headings is resolved to none
chain_none : (s : Setting) (above : EnclosingBlocks) (chain : Forest Plain) (state : ReferenceState) → NoHeading chain
    → NoHeading (resolved_chain s no_notes above chain state).trees
chain_none s above chain state n = shapes-law not_heading made cuts s no_notes above chain state n

-- ---- trees without headings

abbrev GivesNone : Resolving (Unit {0}) → Type 0
GivesNone r = (state : ReferenceState) → NoHeading (r state).trees

tree_none : (shape : Shape) (a : Plain) (below after chain : Resolving (Unit {0})) → not_heading a.part.shape ≡ true
    → GivesNone below → GivesNone after → GivesNone chain → GivesNone (resolved_tree shape a below after chain)
tree_none (leaf e origins) a below after chain n i l w state = (n, tt, l state)
tree_none (enclosed tag origins) a below after chain n i l w state = (n, i state, l (below state).state)
tree_none plain a below after chain n i l w state = (n, i state, l (below state).state)
tree_none backslash_break a below after chain n i l w state = (n, tt, l state)
tree_none (unresolved b) a below after chain n i l w state = w state

document_none : (s : Setting) (above : EnclosingBlocks) (f : Forest Plain) → NoHeading f
    → (state : ReferenceState) → NoHeading (resolved_document s no_notes above f state).trees
document_none s above nil n state = tt
document_none s above (node a below after) n state =
    tree_none a.part.shape a (λ k. resolved_document s no_notes (inside_node a above) below k)
    (λ k. resolved_document s no_notes above after k) (λ k. resolved_chain s no_notes above (node a below after) k)
    n.0
    (λ k. document_none s (inside_node a above) below n.1 k) (λ k. document_none s above after n.2 k)
    (λ k. chain_none s above (node a below after) k n) state

-- ---- headings apart

-- among no headings they are apart
none_apart : (f : Forest Plain) → NoHeading f → AllApart f
none_apart nil n = tt
none_apart (node a below after) n =
    (record { in_heading = λ h. n.1; unread = λ h. n.1 }, none_apart below n.1, none_apart after n.2)

-- before its chains are resolved a heading contains no other, and an open chain contains none
record KeptApart (a : Plain) (below after : Forest Plain) : Type 0 where
  in_heading : not_heading a.part.shape ≡ false → NoHeading below
  in_chain : is_unresolved a.part.shape ≡ true → NoHeading (node a below after)

abbrev AllKept : Forest Plain → Type 0
AllKept f = Throughout KeptApart f

abbrev GivesApart : Resolving (Unit {0}) → Type 0
GivesApart r = (state : ReferenceState) → AllApart (r state).trees

tree_apart : (shape : Shape) (a : Plain) (below after chain : Resolving (Unit {0})) → a.part.shape ≡ shape
    → (not_heading a.part.shape ≡ false → GivesNone below) → GivesApart below → GivesApart after
    → (is_unresolved a.part.shape ≡ true → GivesNone chain) → GivesApart (resolved_tree shape a below after chain)
tree_apart (leaf e origins) a below after chain is n i l w state =
    (record { in_heading = λ h. tt; unread = λ h. tt }, tt, l state)
tree_apart (enclosed tag origins) a below after chain is n i l w state = (
  record { in_heading = λ h. n h state; unread = λ h. absurd (true≢false (sym (ap reads_below is) ∙ h)) },
  i state,
  l (below state).state,
)
tree_apart plain a below after chain is n i l w state = (
  record { in_heading = λ h. n h state; unread = λ h. absurd (true≢false (sym (ap reads_below is) ∙ h)) },
  i state,
  l (below state).state,
)
tree_apart backslash_break a below after chain is n i l w state =
    (record { in_heading = λ h. tt; unread = λ h. tt }, tt, l state)
tree_apart (unresolved b) a below after chain is n i l w state = none_apart (chain state).trees
    (w (ap is_unresolved is) state)

document_apart : (s : Setting) (above : EnclosingBlocks) (f : Forest Plain) → AllKept f
    → (state : ReferenceState) → AllApart (resolved_document s no_notes above f state).trees
document_apart s above nil p state = tt
document_apart s above (node a below after) p state =
    tree_apart a.part.shape a (λ k. resolved_document s no_notes (inside_node a above) below k)
    (λ k. resolved_document s no_notes above after k) (λ k. resolved_chain s no_notes above (node a below after) k)
    refl
    (λ h k. document_none s (inside_node a above) below (p.0.in_heading h) k)
    (λ k. document_apart s (inside_node a above) below p.1 k) (λ k. document_apart s above after p.2 k)
    (λ h k. chain_none s above (node a below after) k (p.0.in_chain h)) state

-- ---- the tree of a block result

-- no heading is among these items, at any depth
abbrev NoHeadingBlock : Forest Numbered → Type 0
NoHeadingBlock f = Each (λ (b : Numbered). is_heading_block b.item.body ≡ false) f

-- how a body reads that is no heading, and of one that is
body_none : (tables : Tables) (source : List ℕ) (b : ItemBody) → is_heading_block b ≡ false
    → not_heading (shape_of tables source b) ≡ true
body_none tables source (body.Heading level attributes) h = cc h
body_none tables source (body.HardBreak true) h = refl
body_none tables source (body.HardBreak false) h = refl
body_none tables source other h = refl

body_heading : (tables : Tables) (source : List ℕ) (b : ItemBody) → not_heading (shape_of tables source b) ≡ false
    → IsTrue (is_heading_block b)
body_heading tables source (body.Heading level attributes) h = refl
body_heading tables source (body.HardBreak true) h = cc h
body_heading tables source (body.HardBreak false) h = cc h
body_heading tables source other h = cc h

inline_none : (b : ItemBody) → is_inline b ≡ true → is_heading_block b ≡ false
inline_none (body.Heading level attributes) h = cc h
inline_none other h = refl

module _ (source : List ℕ) (tables : Tables) (counts : PartCounts) where
  abbrev labelled : Forest Numbered → Forest Plain
  labelled f = relabelled (λ (n : Numbered). tree_node_of source tables n.item) f

  labels_none : (f : Forest Numbered) → NoHeadingBlock f → NoHeading (labelled f)
  labels_none nil n = tt
  labels_none (node a below after) n
      = (body_none tables _ a.item.body n.0, labels_none below n.1, labels_none after n.2)

  -- an inline chain contains no heading
  chain_of_inline : (f : Forest Numbered) → AllKeepRules source counts f → all_inline f ≡ true → NoHeadingBlock f
  chain_of_inline nil k h = tt
  chain_of_inline (node a below after) k h =
      let here = and_first (is_inline a.item.body) (all_inline after) h in (
        inline_none a.item.body here,
        subst NoHeadingBlock (sym (k.0.chains_are_kept.childless (inline_childless a.item.body here))) tt,
        chain_of_inline after k.2 (and_second (is_inline a.item.body) (all_inline after) h),
      )

  kept_apart : (f : Forest Numbered) → AllKeepRules source counts f → (has_open f ≡ true → all_inline f ≡ true)
      → Throughout (λ (a : Numbered) (below after : Forest Numbered). IsTrue (is_heading_block a.item.body)
      → NoHeadingBlock below) f
      → AllKept (labelled f)
  kept_apart nil k h p = tt
  kept_apart (node a below after) k h p = (
    record {
      in_heading = λ e. labels_none below (p.0 (body_heading tables _ a.item.body e));
      in_chain = λ e.
          let o = open-unresolved tables _ a.item.body e in
          labels_none (node a below after) (chain_of_inline (node a below after) k (h (rw o refl)));
    },
    kept_apart below k.1 k.0.chains_are_kept.inline_only p.1,
    kept_apart after k.2 (λ o. and_second (is_inline a.item.body) (all_inline after)
        (h (or_right (is_open a.item.body) (has_open after) o))) p.2,
  )

-- the tree of a block result, with its chains resolved
pub blocks_apart : (blocks : Blocks) (asks : Bool) (answers : Answers) → HeadingsApart blocks
    → AllApart (resolved_blocks blocks asks answers).trees
blocks_apart blocks asks answers p =
    let source = text_of_blocks blocks in
    let parts = block_parts blocks in
    let tree = tree_of (block_arena blocks).nodes in
    document_apart (setting_of source (rules_of blocks asks)) (no_blocks source)
    (document source (tables_at_start parts) (block_arena blocks).nodes)
    (kept_apart source (tables_at_start parts) (counts_of parts) tree blocks.well_formed.rules
    (λ o. cc (o, blocks.well_formed.top_is_closed)) p) (state_at_start source answers)

-- ---- the block result of a text

-- inline items are no headings
inline_nones : (f : Forest Numbered) → Each (λ (b : Numbered). IsTrue (is_inline b.item.body)) f → NoHeadingBlock f
inline_nones nil h = tt
inline_nones (node a below after) h = (inline_none a.item.body h.0, inline_nones below h.1, inline_nones after h.2)

held_apart : (f : Forest Numbered) → HeadingsHoldInline f
    → Throughout (λ (a : Numbered) (below after : Forest Numbered). IsTrue (is_heading_block a.item.body)
    → NoHeadingBlock below) f
held_apart nil h = tt
held_apart (node a below after) h = (λ e. inline_nones below (h.0 e), held_apart below h.1, held_apart after h.2)

pub texts_apart : HeadingsOfTextsApart
texts_apart s blocks of = held_apart (tree_of (block_arena blocks).nodes) of.by_rules.headings_hold_inline
