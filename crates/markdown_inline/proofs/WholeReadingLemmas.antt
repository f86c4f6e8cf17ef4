-- In the tree of a whole document no leaf is a Start or an End, no link is in a link, and what was looked up expands to
-- few bytes.
use Rattle.std.proofs.Common.{◌≡◌, ℕ, Bool, true, false, List, [], ◌∷◌, ◌++◌, refl, sym, subst, ap, ◌∙◌, arith, map}
use Rattle.std.specs.Prelude.{⊤, if◌then◌else◌}
use Rattle.std.proofs.lemmas.List.{map-append}
use Rattle.std.specs.declared.ops.Range.{Range}
use Rattle.markdown_base.specs.BlockTree.{Numbered, tree_of}
use Rattle.markdown_base.specs.Event.{EventView, TagView, start, end, tag_end, link, image, hard_break}
use Rattle.markdown_base.specs.Forest.{Forest, nil, node, Each, relabelled}
use Rattle.markdown_base.specs.Item.{is_resolved}
use Rattle.markdown_base.specs.Questions.{Answers}
use Rattle.markdown_base.specs.WellFormed.{AllKeepRules, PartCounts, counts_of}
use Rattle.markdown_base.specs.declared.item.ItemBody.{ItemBody}
use Rattle.markdown_base.specs.declared.item.ItemBody.TheVariants as body
use Rattle.markdown_blocks.specs.Blocks.{block_parts, text_of_blocks, block_arena}
use Rattle.markdown_blocks.specs.declared.blocks.Blocks.{Blocks}
use Rattle.markdown_document.specs.EnclosingBlocks.{EnclosingBlocks, inside_node, no_blocks}
use Rattle.markdown_document.specs.ChainRest.{cut_event, cut_shape, without_first}
use Rattle.markdown_document.specs.Document.{Origin, sliced, inlined, made, Shape, leaf, enclosed, plain}
use Rattle.markdown_document.specs.Document.{backslash_break, unresolved, TreeNode, Plain, no_notes, document}
use Rattle.markdown_document.specs.Document.{tree_node_of, shape_of}
use Rattle.markdown_document.specs.Setting.{Setting, ReferenceState, setting_of}
use Rattle.markdown_document.specs.Tables.{Tables, tables_at_start}
use Rattle.markdown_delims.proofs.SumLemmas.{sum_of}
use Rattle.markdown_brackets.specs.Lookup.{size_of}
use Rattle.markdown_brackets.specs.NoLinkInLink.{ClosesOverNone, HasNoLinkInLink, HasNoneBelow, IsFreeOfLinks, IsNoLink}
use Rattle.markdown_brackets.specs.NoLinkInLink.{OpensNoLink}
use Rattle.markdown_inline.specs.Balanced.{Ranged, ranged}
use Rattle.markdown_inline.specs.Elements.{Placed, events_of}
use Rattle.markdown_inline.specs.LimitLaw.{tag_expansion}
use Rattle.markdown_inline.specs.LookUps.{is_looked_up}
use Rattle.markdown_inline.specs.ParserLeft.{state_at_start, reading_of, rules_of}
use Rattle.markdown_inline.specs.ResolvedDocument.{Resolution, Resolving, no_trees, resolved_blocks, resolved_chain}
use Rattle.markdown_inline.specs.ResolvedDocument.{resolved_document, resolved_tree, tree_then}
use Rattle.markdown_inline.specs.ResolvedShapes.{IsMadeEvent}
use Rattle.markdown_inline.specs.TreeReading.{BlockTreeLaw, GivesBoth, IsLone, events_in, tree_events}
use Rattle.markdown_inline.proofs.LinksApartLemmas.{resolved_apart}
use Rattle.markdown_inline.proofs.EndOrderLemmas.{Spent, ends_append, ends_onto, spends, spent_both, spent_none, total}
use Rattle.markdown_inline.proofs.EndOrderLemmas.{total_append, total_ends}
use Rattle.markdown_inline.proofs.LookUpsLemmas.{resolved_spent}
use Rattle.markdown_inline.proofs.PairedEndsLemmas.{IsNoBracket, mark_bracket}
use Rattle.markdown_inline.proofs.ResolvedEndsLemmas.{Keeps, resolved_holds}
use Rattle.markdown_inline.proofs.TreeReadingLemmas.{blocks_read}

-- the events of a forest of which nothing is open
abbrev pub opened_events : Shape → Range ℕ → (inside after : List Ranged) → List Ranged
opened_events (leaf e origins) range inside after = (e, range) ∷ after
opened_events (enclosed tag origins) range inside after =
    (start tag, range) ∷ (inside ++ (end (tag_end tag), range) ∷ after)
opened_events plain range inside after = inside ++ after
opened_events backslash_break range inside after = (hard_break, range) ∷ after
opened_events (unresolved b) range inside after = after

abbrev pub ranged_in : {A : Type 0} → Forest (TreeNode A) → List Ranged
ranged_in nil = []
ranged_in (node a below after) = opened_events a.part.shape a.part.range (ranged_in below) (ranged_in after)

-- these are the events of the reading, with their ranges but without origins
ranged_tree : (shape : Shape) (range : Range ℕ) (es fs : List Placed)
    → ranged (tree_events shape range es fs) ≡ opened_events shape range (ranged es) (ranged fs)
ranged_tree (leaf e origins) range es fs = refl
ranged_tree (enclosed tag origins) range es fs =
    ap (λ (l : List Ranged). (start tag, range) ∷ l)
    (map-append (λ (e : Placed). (e.0, e.1)) es ((end (tag_end tag), range, []) ∷ fs))
ranged_tree plain range es fs = map-append (λ (e : Placed). (e.0, e.1)) es fs
ranged_tree backslash_break range es fs = refl
ranged_tree (unresolved b) range es fs = refl

ranged_same : {A : Type 0} (f : Forest (TreeNode A)) → ranged (events_in f) ≡ ranged_in f
ranged_same nil = refl
ranged_same (node a below after) =
    ranged_tree a.part.shape a.part.range (events_in below) (events_in after)
    ∙ ap (λ (l : List Ranged). opened_events a.part.shape a.part.range l (ranged (events_in after))) (ranged_same below)
    ∙ ap (λ (l : List Ranged). opened_events a.part.shape a.part.range (ranged_in below) l) (ranged_same after)

-- 1 for a Start or an End that is a leaf
abbrev pub alone_event : EventView → List ℕ
alone_event (start tag) = 1 ∷ []
alone_event (end e) = 1 ∷ []
alone_event other = []

abbrev pub alone_at : Shape → List ℕ
alone_at (leaf e origins) = alone_event e
alone_at other = []

abbrev pub alone : {A : Type 0} → TreeNode A → ℕ
alone a = total (alone_at a.part.shape)

lone_none : (e : EventView) → IsLone e → alone_event e ≡ []
lone_none (start tag) h = absurd h
lone_none (end e) h = absurd h
lone_none other h = refl

cut_alone : (n : ℕ) (e : EventView) (origins : List Origin) → alone_event (cut_event n e origins) ≡ alone_event e
cut_alone n e [] = refl
cut_alone n e (inlined ∷ origins) = refl
cut_alone n e (made ∷ origins) = refl
cut_alone n e (sliced ∷ origins) = shortened e
  where
    shortened : (e : EventView) → alone_event (without_first n e) ≡ alone_event e
    shortened (start tag) = refl
    shortened other = refl

made_lone : (e : EventView) → IsMadeEvent e → IsLone e
made_lone (start tag) h = absurd h
made_lone (end e) h = absurd h
made_lone other h = tt

-- look-ups and pairs make no leaf that is a Start or an End
alone_keeps : Keeps alone_at (λ ns limit. total ns ≡ 0)
alone_keeps = record {
  numbers = record { lone = λ e origins h. lone_none e (made_lone e h); mark = λ tag h. refl };
  cut = cut_same;
  other_link = λ v titles e. refl;
  other_image = λ v titles e. refl;
  less = λ ns ms limit w e. omega (arith, w.sums, e);
  link_found = λ ns limit v h e. omega (arith, total_append ns [], e);
  image_found = λ ns limit v h e. omega (arith, total_append ns [], e);
}
  where
    cut_same : (n : ℕ) (shape : Shape) → alone_at (cut_shape n shape) ≡ alone_at shape
    cut_same n (leaf e origins) = cut_alone n e origins
    cut_same n other = refl

-- what a shape expands to
abbrev pub expansion_at : Shape → List ℕ
expansion_at (enclosed tag origins) = tag_expansion tag
expansion_at other = []

no_bracket_none : (tag : TagView) → IsNoBracket tag → tag_expansion tag ≡ []
no_bracket_none (link v) h = absurd h
no_bracket_none (image v) h = absurd h
no_bracket_none other h = refl

if_none : (b : Bool) (ns : List ℕ) → b ≡ false → (if b then ns else []) ≡ []
if_none true ns e = cc e
if_none false ns e = refl

-- only look-ups expand to something, and each takes its bytes off the limit
expansions_keep : (limit : ℕ) → Keeps expansion_at (Spent limit)
expansions_keep limit = record {
  numbers = record { lone = λ e origins h. refl; mark = λ tag h. no_bracket_none tag (mark_bracket tag h) };
  cut = cut_same;
  other_link = λ v titles e. if_none (is_looked_up v.kind) (size_of v ∷ []) e;
  other_image = λ v titles e. if_none (is_looked_up v.kind) (size_of v ∷ []) e;
  less = λ ns ms later w s. record {
    left = omega (arith, w.sums, s.left);
    fits = w.fits limit 0 0 (omega arith) s.fits;
  };
  link_found = λ ns later v h s. spends limit ns later (size_of v) (is_looked_up v.kind) h s;
  image_found = λ ns later v h s. spends limit ns later (size_of v) (is_looked_up v.kind) h s;
}
  where
    cut_same : (n : ℕ) (shape : Shape) → expansion_at (cut_shape n shape) ≡ expansion_at shape
    cut_same n (leaf e origins) = refl
    cut_same n other = refl

-- what a part of a document is resolved to: no leaf is a Start or an End, no link is in a link, and what look-ups
-- found, as the events show it and in all, fits in the limit
pub record IsSuch (addresses : Bool) (state : ReferenceState) (r : Resolution (Unit {0})) : Type 0 where
  pub lone : sum_of alone r.trees ≡ 0
  pub apart : HasNoLinkInLink addresses r.trees
  pub spent : Spent state.limit (ends_onto expansion_at r.trees []) r.state.limit
  pub found : Spent state.limit (map size_of r.found) r.state.limit

none_such : (addresses : Bool) (state : ReferenceState) → IsSuch addresses state (no_trees state)
none_such addresses state =
    record { lone = refl; apart = tt; spent = spent_none state.limit; found = spent_none state.limit }

-- a shape of a block result: not a link or an image, and not a leaf that is a Start or an End
abbrev pub IsBlockShape : Shape → Type 0
IsBlockShape (leaf e origins) = IsLone e
IsBlockShape (enclosed tag origins) = IsNoBracket tag
IsBlockShape other = ⊤

abbrev pub AreBlockShapes : {A : Type 0} → Forest (TreeNode A) → Type 0
AreBlockShapes f = Each (λ a. IsBlockShape a.part.shape) f

-- so a block result has none of these
block_alone : (shape : Shape) → IsBlockShape shape → alone_at shape ≡ []
block_alone (leaf e origins) h = lone_none e h
block_alone other h = refl

block_expansion : (shape : Shape) → IsBlockShape shape → expansion_at shape ≡ []
block_expansion (enclosed tag origins) h = no_bracket_none tag h
block_expansion other h = refl

block_link : (addresses : Bool) (shape : Shape) → IsBlockShape shape → IsNoLink addresses shape
block_link addresses (enclosed tag origins) h = tag_link tag h
  where
    tag_link : (tag : TagView) → IsNoBracket tag → OpensNoLink addresses tag
    tag_link (link v) h = absurd h
    tag_link other h = tt
block_link addresses other h = tt

block_apart : {A : Type 0} (addresses : Bool) (shape : Shape) (below : Forest (TreeNode A)) → IsBlockShape shape
    → HasNoneBelow addresses shape below
block_apart addresses (enclosed tag origins) below h = note_apart tag h
  where
    note_apart : (tag : TagView) → IsNoBracket tag → ClosesOverNone addresses tag below
    note_apart (link v) h = absurd h
    note_apart other h = tt
block_apart addresses other below h = tt

module _ {A : Type 0} where
  none_at : (own : Shape → List ℕ) → ((shape : Shape) → IsBlockShape shape → own shape ≡ []) → (f : Forest (TreeNode A))
      → AreBlockShapes f
      → Each (λ (a : TreeNode A). own a.part.shape ≡ []) f
  none_at own none nil h = tt
  none_at own none (node a below after) h
      = (none a.part.shape h.0, none_at own none below h.1, none_at own none after h.2)

  free_blocks : (addresses : Bool) (f : Forest (TreeNode A)) → AreBlockShapes f → IsFreeOfLinks addresses f
  free_blocks addresses nil h = tt
  free_blocks addresses (node a below after) h =
      (block_link addresses a.part.shape h.0, free_blocks addresses below h.1, free_blocks addresses after h.2)

-- a chain
chain_such : (s : Setting) (above : EnclosingBlocks) (chain : Forest Plain) (state : ReferenceState)
    → AreBlockShapes chain
    → IsSuch s.rules.syntax.addresses state (resolved_chain s no_notes above chain state)
chain_such s above chain state h =
    let trees : Forest Plain = (resolved_chain s no_notes above chain state).trees in
    record {
      lone =
          let none = resolved_holds alone_at (λ ns limit. total ns ≡ 0) alone_keeps s no_notes above chain state
          (none_at alone_at block_alone chain h) refl in
          omega (arith, none, total_ends alone_at trees []);
      apart = resolved_apart s no_notes above chain state (free_blocks s.rules.syntax.addresses chain h);
      spent = resolved_holds expansion_at (Spent state.limit) (expansions_keep state.limit) s no_notes above chain
          state
          (none_at expansion_at block_expansion chain h) (spent_none state.limit);
      found = resolved_spent s no_notes above chain state;
    }

-- a tree over what is below it, before what comes after it
then_such : (addresses : Bool) (a : Plain) (below after : Resolving (Unit {0})) (state : ReferenceState)
    → IsBlockShape a.part.shape → IsSuch addresses state (below state)
    → IsSuch addresses (below state).state (after (below state).state)
    → IsSuch addresses state (tree_then a below after state)
then_such addresses a below after state h i r =
    let inside : Resolution (Unit {0}) = below state in
    let later : Resolution (Unit {0}) = after inside.state in
    let rest : List ℕ = ends_onto expansion_at later.trees [] in
    let listed : ends_onto expansion_at inside.trees (expansion_at a.part.shape ++ rest)
    ≡ ends_onto expansion_at inside.trees [] ++ rest =
    ap (λ (l : List ℕ). ends_onto expansion_at inside.trees (l ++ rest)) (block_expansion a.part.shape h)
    ∙ ends_append expansion_at inside.trees [] rest in
    record {
      lone = omega (arith, ap total (block_alone a.part.shape h), i.lone, r.lone);
      apart = (block_apart addresses a.part.shape inside.trees h, i.apart, r.apart);
      spent = subst (λ (l : List ℕ). Spent state.limit l later.state.limit) (sym listed)
          (spent_both state.limit inside.state.limit
          later.state.limit (ends_onto expansion_at inside.trees []) rest i.spent r.spent);
      found = subst (λ (l : List ℕ). Spent state.limit l later.state.limit)
          (sym (map-append size_of inside.found later.found))
          (spent_both state.limit inside.state.limit later.state.limit (map size_of inside.found)
          (map size_of later.found) i.found r.found);
    }

tree_such : (addresses : Bool) (shape : Shape) (a : Plain) (below after chain : Resolving (Unit {0}))
    → IsBlockShape a.part.shape → ((state : ReferenceState) → IsSuch addresses state (below state))
    → ((state : ReferenceState) → IsSuch addresses state (after state))
    → ((state : ReferenceState) → IsSuch addresses state (chain state)) → (state : ReferenceState)
    → IsSuch addresses state (resolved_tree shape a below after chain state)
tree_such addresses (leaf e origins) a below after chain h i l w state =
    then_such addresses a no_trees after state h (none_such addresses state) (l state)
tree_such addresses (enclosed tag origins) a below after chain h i l w state =
    then_such addresses a below after state h (i state) (l (below state).state)
tree_such addresses plain a below after chain h i l w state =
    then_such addresses a below after state h (i state) (l (below state).state)
tree_such addresses backslash_break a below after chain h i l w state =
    then_such addresses a no_trees after state h (none_such addresses state) (l state)
tree_such addresses (unresolved b) a below after chain h i l w state = w state

-- a document
document_such : (s : Setting) (above : EnclosingBlocks) (f : Forest Plain) (state : ReferenceState) → AreBlockShapes f
    → IsSuch s.rules.syntax.addresses state (resolved_document s no_notes above f state)
document_such s above nil state h = none_such s.rules.syntax.addresses state
document_such s above (node a below later) state h =
    tree_such s.rules.syntax.addresses a.part.shape a
    (λ k. resolved_document s no_notes (inside_node a above) below k)
    (λ k. resolved_document s no_notes above later k) (λ k. resolved_chain s no_notes above (node a below later) k)
    h.0
    (λ k. document_such s (inside_node a above) below k h.1) (λ k. document_such s above later k h.2)
    (λ k. chain_such s above (node a below later) k h) state

-- the shapes of a well-formed block result
block_shape : (tables : Tables) (source : List ℕ) (b : ItemBody) → is_resolved b ≡ false
    → IsBlockShape (shape_of tables source b)
block_shape tables source (body.HardBreak true) h = tt
block_shape tables source (body.HardBreak false) h = tt
block_shape tables source (body.Math ix display) h = cc h
block_shape tables source (body.Link ix) h = cc h
block_shape tables source (body.Image ix) h = cc h
block_shape tables source other h = tt

block_shapes : (source : List ℕ) (tables : Tables) (counts : PartCounts) (tree : Forest Numbered)
    → AllKeepRules source counts tree
    → AreBlockShapes (relabelled (λ (n : Numbered). tree_node_of source tables n.item) tree)
block_shapes source tables counts nil h = tt
block_shapes source tables counts (node a below after) h = (
  block_shape tables _ a.item.body h.0.nothing_resolved,
  block_shapes source tables counts below h.1,
  block_shapes source tables counts
      after h.2,
)

-- the whole
pub whole_such : (blocks : Blocks) (asks : Bool) (answers : Answers)
    → IsSuch ((rules_of blocks asks).syntax.addresses) (state_at_start (text_of_blocks blocks) answers)
    (resolved_blocks blocks asks answers)
whole_such blocks asks answers =
    document_such (setting_of (text_of_blocks blocks) (rules_of blocks asks)) (no_blocks (text_of_blocks blocks))
    (document (text_of_blocks blocks) (tables_at_start (block_parts blocks)) (block_arena blocks).nodes)
    (state_at_start (text_of_blocks blocks) answers)
    (block_shapes (text_of_blocks blocks) (tables_at_start (block_parts blocks)) (counts_of (block_parts blocks))
    (tree_of (block_arena blocks).nodes) blocks.well_formed.rules)

-- its events
pub whole_events : (blocks : Blocks) (asks : Bool) (answers : Answers)
    → ranged (events_of (reading_of blocks asks answers))
    ≡ ranged_in (resolved_blocks blocks asks answers).trees
whole_events blocks asks answers =
    ap ranged (blocks_read blocks asks answers).0 ∙ ranged_same (resolved_blocks blocks asks answers).trees

-- no leaf of it is a Start or an End
gives_both : (shape : Shape) → total (alone_at shape) ≡ 0 → GivesBoth shape
gives_both (leaf e origins) h = lone e h
  where
    lone : (e : EventView) → total (alone_event e) ≡ 0 → IsLone e
    lone (start tag) h = cc h
    lone (end e) h = cc h
    lone other h = tt
gives_both other h = tt

all_give : {A : Type 0} (f : Forest (TreeNode A)) → sum_of alone f ≡ 0 → Each (λ
    (a : TreeNode A). GivesBoth a.part.shape) f
all_give nil h = tt
all_give (node a below after) h =
    (gives_both a.part.shape (omega (arith, h)), all_give below (omega (arith, h)), all_give after (omega (arith, h)))

pub block_tree-law : BlockTreeLaw
block_tree-law blocks asks answers = record {
  events = (blocks_read blocks asks answers).0;
  both = all_give (resolved_blocks blocks asks answers).trees (whole_such blocks asks answers).lone;
  questions = (blocks_read blocks asks answers).1;
}
