-- No count of a walk reaches its maximum: a call counts at most as many as there are steps to come before it, and steps
-- get fewer.
use Rattle.std.proofs.Common.{◌≡◌, ℕ, zero, suc, ◌+◌, ◌*◌, ◌^◌, ◌<◌, ◌≤◌, Bool, true, false, List, [], ◌∷◌, ◌++◌}
use Rattle.std.proofs.Common.{length, Option, Some, None, Result, Ok, Err, refl, ap, subst, arith}
use Rattle.std.specs.Prelude.{IfSome, slice_range}
use Rattle.std.specs.declared.ops.Range.{Range}
use Rattle.markdown_base.specs.Arena.{sibling_of}
use Rattle.markdown_base.specs.ArenaForest.{forest_at, links_of}
use Rattle.markdown_base.specs.BlockTree.{item_at}
use Rattle.markdown_base.specs.Forest.{Forest, nil, node, relabelled, roots}
use Rattle.markdown_base.specs.Item.{is_open, range_of}
use Rattle.markdown_base.specs.Questions.{Question, Answer, Answers}
use Rattle.markdown_base.specs.declared.fault.Fault.{Fault}
use Rattle.markdown_base.specs.declared.item.Item.{Item}
use Rattle.markdown_base.specs.declared.item.ItemBody.{ItemBody}
use Rattle.markdown_base.specs.declared.item.ItemBody.TheVariants as body
use Rattle.markdown_base.specs.declared.node.Node.{Node}
use Rattle.markdown_base.specs.declared.tag.TagEnd.{TagEnd}
use Rattle.markdown_document.specs.EnclosingBlocks.{EnclosingBlocks, above_at, inside_item, inside_node, no_blocks}
use Rattle.markdown_document.specs.Counts.{ChainCounts, RisesAtMost, WorkRises, comparisons_per_delimiter, no_counts}
use Rattle.markdown_document.specs.Counts.{risen, counts_delimiter, counts_shape, delimiters_in}
use Rattle.markdown_document.specs.Document.{TreeNode, Plain, Shape, Notes, backslash_break, enclosed, is_unresolved}
use Rattle.markdown_document.specs.Document.{leaf, plain, no_notes, shape_of, unresolved}
use Rattle.markdown_document.specs.TreeNodes.{weight}
use Rattle.markdown_document.specs.Places.{tree_node_at, trees_from}
use Rattle.markdown_document.specs.Setting.{ReferenceState, Setting}
use Rattle.markdown_document.specs.Tables.{Tables, tables_of}
use Rattle.markdown_document.specs.Totals.{total, weight_at, weight_if}
use Rattle.markdown_document.specs.declared.work.Work.{Work}
use Rattle.markdown_document.proofs.PlaceLemmas.{open-unresolved, shape-open, some_weight}
use Rattle.markdown_resolver.specs.ChainCounts.{chain_counts}
use Rattle.markdown_resolver.specs.PassOne.{pass_one}
use Rattle.markdown_resolver.proofs.PassOneLemmas.{pass_one-weight}
use Rattle.markdown_inline.specs.CountsLaw.{AreBelowGreatest, Calls, CountsLaw, RisesPlainly}
use Rattle.markdown_inline.specs.Elements.{Placed, Passage, Reading, nothing_read}
use Rattle.markdown_inline.specs.NextGives.{NextGives, IsEventOf, IsPlacedOf}
use Rattle.markdown_inline.specs.ParserLeft.{no_work, parser_counts, parser_state, parser_setting, parser_steps}
use Rattle.markdown_inline.specs.ParserLeft.{parser_work}
use Rattle.markdown_inline.specs.Reading.{chain_reading, reading, reading_opened}
use Rattle.markdown_inline.specs.Walk.{after_chain, end_of_body, ended, left_of}
use Rattle.markdown_inline.specs.WalkTotals.{climbed, left_total, weight_to_come}
use Rattle.markdown_inline.specs.declared.walk.Parser.{Parser}
use Rattle.markdown_inline.proofs.CountLemmas.{part_most}

-- counts of a chain that are no greater than a number
record AreFew (n : ChainCounts) (most : ℕ) : Type 0 where
  pub items : n.items ≤ most
  pub delimiters : n.delimiters ≤ most

few-none : (most : ℕ) → AreFew no_counts most
few-none most = record { items = omega arith; delimiters = omega arith }

few-more : (n : ChainCounts) (most more : ℕ) → most ≤ more → AreFew n most → AreFew n more
few-more n most more l h = record { items = omega (arith, l, h.items); delimiters = omega (arith, l, h.delimiters) }

-- a chain weighs at least as much as it has items
roots-few : {A : Type 0} (f : Forest (TreeNode A)) → length (roots f) ≤ weight f
roots-few nil = omega arith
roots-few (node a below after) = omega (arith, roots-few after, some_weight (is_unresolved a.part.shape))

-- a chain weighs at least as much as it has delimiter characters
counted-once : (b : ItemBody) → counts_delimiter b ≤ 1
counted-once (body.MaybeEmphasis count opens closes) = omega arith
counted-once other = omega arith

shape-few : (shape : Shape) → counts_shape shape ≤ weight_if (is_unresolved shape)
shape-few (leaf e origins) = omega arith
shape-few (enclosed tag origins) = omega arith
shape-few plain = omega arith
shape-few backslash_break = omega arith
shape-few (unresolved b) = omega (arith, counted-once b)

delimiters-few : {A : Type 0} (f : Forest (TreeNode A)) → delimiters_in f ≤ weight f
delimiters-few nil = omega arith
delimiters-few (node a below after) = omega (arith, shape-few a.part.shape, delimiters-few after)

-- so the counts of a chain are few
chain-few : {A : Type 0} (s : Setting) (notes : Notes A) (above : EnclosingBlocks) (chain : Forest (TreeNode A))
    (state : ReferenceState) → AreFew (chain_counts s notes above chain state) (weight chain)
chain-few s notes above chain state = record {
  items = roots-few chain;
  delimiters = omega (
    arith,
    delimiters-few (pass_one s notes above chain state).forest,
    pass_one-weight s notes above chain state,
  );
}

-- and so are those before the first event of a forest
opened-few : (shape : Shape) (range : Range ℕ) (inside : Reading → Reading) (after whole : Reading)
    (state : ReferenceState) (most : ℕ) → AreFew (inside after state).counts most → AreFew (whole state).counts most
    → AreFew (reading_opened shape range inside after whole state).counts most
opened-few (leaf e origins) range inside after whole state most i c = few-none most
opened-few (enclosed tag origins) range inside after whole state most i c = few-none most
opened-few plain range inside after whole state most i c = i
opened-few backslash_break range inside after whole state most i c = few-none most
opened-few (unresolved b) range inside after whole state most i c = c

reading-few : (s : Setting) (above : EnclosingBlocks) (f : Forest Plain) (after : Reading) (state : ReferenceState)
    (most : ℕ)
    → AreFew (after state).counts most → AreFew (reading s no_notes above f after state).counts (weight f + most)
reading-few s above nil after state most h = few-more (after state).counts most (0 + most) (omega arith) h
reading-few s above (node a below later) after state most h =
    let rest : Reading = reading s no_notes above later after in
    let inside : Reading → Reading = λ inner. reading s no_notes (inside_node a above) below inner in
    let chain : Reading = chain_reading s no_notes above (node a below later) after in
    let all = weight (node a below later) + most in
    opened-few a.part.shape a.part.range inside rest chain state all
    (few-more (inside rest state).counts (weight below + (weight later + most)) all (omega arith)
    (reading-few s (inside_node a above) below rest state (weight later + most)
    (reading-few s above later after state most h)))
    (few-more (chain state).counts (weight (node a below later)) all (omega arith)
    (chain-few s no_notes above (node a below later) state))

-- an item waits where it is open
open-same : (tables : Tables) (source : List ℕ) (b : ItemBody) → is_unresolved (shape_of tables source b) ≡ is_open b
open-same tables source b = by (is_open b) refl
  where
    closed : (u : Bool) → is_unresolved (shape_of tables source b) ≡ u → is_open b ≡ false
        → is_unresolved (shape_of tables source b) ≡ false
    closed true u e = cc (open-unresolved tables source b u, e)
    closed false u e = u

    by : (o : Bool) → is_open b ≡ o → is_unresolved (shape_of tables source b) ≡ o
    by true e = ap is_unresolved (shape-open tables source b e)
    by false e = closed (is_unresolved (shape_of tables source b)) refl e

-- the weight of a forest is that of its nodes
weight-placed : (source : List ℕ) (tables : Tables) (nodes : List (Node Item)) (f : Forest ℕ)
    → weight (relabelled (tree_node_at source tables nodes) f) ≡ total (weight_at nodes) f
weight-placed source tables nodes nil = refl
weight-placed source tables nodes (node ix below after) =
    let item = item_at nodes ix in
    omega (
      arith,
      ap weight_if (open-same tables (slice_range source item.start item.end) item.body),
      weight-placed source tables nodes below,
      weight-placed source tables nodes after,
    )

ended-few : (e : Option TagEnd) (range : Range ℕ) (after : Reading) (state : ReferenceState) (most : ℕ)
    → AreFew (after state).counts most
    → AreFew (ended e range after state).counts most
ended-few None range after state most h = h
ended-few (Some e) range after state most h = few-none most

after-few : (s : Setting) (above : EnclosingBlocks) (tables : Tables) (nodes : List (Node Item)) (spine : List ℕ)
    (after : Reading) (state : ReferenceState) (most : ℕ) → AreFew (after state).counts most
    → AreFew (after_chain s above tables nodes spine after state).counts
    (climbed (λ ix. 1) (weight_at nodes) (links_of nodes) spine + most)
after-few s above tables nodes [] after state most h = few-more (after state).counts most (0 + most) (omega arith) h
after-few s above tables nodes (ix ∷ deeper) after state most h =
    let trees = trees_from s.text tables nodes (sibling_of nodes ix) in
    let here : Reading = reading s no_notes above trees after in
    let item = item_at nodes ix in
    let later : Reading = ended (end_of_body item.body) (range_of item) here in
    let same = weight-placed s.text tables nodes (forest_at (links_of nodes) (sibling_of nodes ix)) in
    let whole : Passage = after_chain s (inside_item item above) tables nodes deeper later state in
    few-more whole.counts (climbed (λ ix. 1) (weight_at nodes) (links_of nodes) deeper + (weight trees + most))
    (climbed (λ ix. 1) (weight_at nodes) (links_of nodes) (ix ∷ deeper) + most) (omega (arith, same))
    (after-few s (inside_item item above) tables nodes deeper later state (weight trees + most)
    (ended-few (end_of_body item.body) (range_of item) here state (weight trees + most)
    (reading-few s above trees after state most h)))

-- the counts of a walk are few, by the weight of what is left of it
left-few : (s : Setting) (tables : Tables) (nodes : List (Node Item)) (l : Option ℕ) (spine : List ℕ)
    (state : ReferenceState) → AreFew (left_of s tables nodes l spine state).counts (weight_to_come nodes l spine)
unfolding left_of left_total
left-few s tables nodes l spine state =
    let trees = trees_from s.text tables nodes l in
    let after : Reading = after_chain s (no_blocks s.text) tables nodes spine nothing_read in
    let blocks = above_at s.text nodes spine in
    let whole : Passage = reading s no_notes blocks trees after state in
    let later = climbed (λ ix. 1) (weight_at nodes) (links_of nodes) spine in
    let same = weight-placed s.text tables nodes (forest_at (links_of nodes) l) in
    few-more whole.counts (weight trees + (later + 0))
    (total (weight_at nodes) (forest_at (links_of nodes) l) + later)
    (omega (arith, same))
    (reading-few s blocks trees after state (later + 0)
    (after-few s (no_blocks s.text) tables nodes spine nothing_read state 0 (few-none 0)))

parser-few : {F : Type 0} (p : Parser F) (answers : Answers) → AreFew (parser_counts p answers) (parser_steps p)
parser-few p answers =
    few-more (parser_counts p answers) (weight_to_come p.tree.nodes p.tree.cursor p.tree.spine) (parser_steps p)
    (omega arith)
    (left-few (parser_setting p) (tables_of p.resolver.lookup.tables) p.tree.nodes p.tree.cursor p.tree.spine
    (parser_state p answers))

-- counts, with what the steps to come may still add to them, are small
record Fits (work : Work) (left : ℕ) : Type 0 where
  pub few : left < 2 ^ 62
  pub delimiters : work.delimiters + 2 ^ 62 * left ≤ 2 ^ 124
  pub examined : work.examined + 11 * (2 ^ 62 * left) ≤ 11 * 2 ^ 124
  pub items : work.items + 2 ^ 62 * left ≤ 2 ^ 124
  pub code_visits : work.code_visits + 2 ^ 62 * left ≤ 2 ^ 124
  pub math_visits : work.math_visits + 2 ^ 62 * left ≤ 2 ^ 124

risen-few : (n count : ℕ) → risen n count ≤ count + n
risen-few zero count = omega arith
risen-few (suc n) count = omega arith

rises-few : (most old new : ℕ) → RisesAtMost most old new → new ≤ old + most
rises-few most old new r = omega (arith, r.counted, r.within, risen-few r.more old)

-- a call that counts no more than there were steps pays for it by a step
fits-on : (n : ChainCounts) (old new : Work) (before left : ℕ) → Fits old before → WorkRises n old new → AreFew n before
    → 2 ^ 62 * left + before ≤ 2 ^ 62 * before → Fits new left
fits-on n old new before left f r few paid = record {
  few = omega (arith, paid, f.few);
  delimiters = omega (arith, f.delimiters, r.delimiters, risen-few n.delimiters old.delimiters, few.delimiters, paid);
  examined = omega (
    arith,
    f.examined,
    rises-few (comparisons_per_delimiter * n.delimiters) old.examined new.examined r.examined,
    few.delimiters,
    paid,
  );
  items = omega (arith, f.items, r.items, risen-few n.items old.items, few.items, paid);
  code_visits = omega (
    arith,
    f.code_visits,
    rises-few n.items old.code_visits new.code_visits r.code_visits,
    few.items,
    paid,
  );
  math_visits = omega (
    arith,
    f.math_visits,
    rises-few n.items old.math_visits new.math_visits r.math_visits,
    few.items,
    paid,
  );
}

-- a step fewer is to come, or none
paid-falls : (before left : ℕ) → left < before → before < 2 ^ 62 → 2 ^ 62 * left + before ≤ 2 ^ 62 * before
paid-falls before left l few = omega (arith, l, few)

paid-over : (before left : ℕ) → left ≡ 0 → 2 ^ 62 * left + before ≤ 2 ^ 62 * before
paid-over before left e = omega (arith, e)

module _ {F I : Type 0} (step : F → Question → Option Answer → F → Type 0) (is_of : List ℕ → I → Placed → Type 0) where
  fits-next : (s : Parser F) (given : Option (Result I Fault)) (t : Parser F) → NextGives step is_of s given t
      → IfSome given (λ _. parser_steps t < parser_steps s) → Fits (parser_work s) (parser_steps s)
      → Fits (parser_work t) (parser_steps t)
  fits-next s None t h falls f =
      let g = h.gives in
      fits-on (parser_counts s []) (parser_work s) (parser_work t) (parser_steps s) (parser_steps t) f (g.counts [])
      (parser-few s [])
      (paid-over (parser_steps s) (parser_steps t) g.over.steps)
  fits-next s (Some (Ok item)) t h falls f =
      let g = h.gives in
      fits-on (parser_counts s (g.answers ++ [])) (parser_work s) (parser_work t) (parser_steps s) (parser_steps t) f
      (g.counts [])
      (parser-few s (g.answers ++ [])) (paid-falls (parser_steps s) (parser_steps t) falls f.few)
  fits-next s (Some (Err fault)) t h falls f =
      let g = h.gives in
      let r = g.counts [] in
      let few = parser-few s (g.answers ++ []) in
      fits-on r.part (parser_work s) (parser_work t) (parser_steps s) (parser_steps t) f r.rises
      (record {
        items = omega (arith, part_most (parser_counts s (g.answers ++ [])).items r.part.items r.items, few.items);
        delimiters = omega (
          arith,
          part_most (parser_counts s (g.answers ++ [])).delimiters r.part.delimiters r.delimiters,
          few.delimiters,
        );
      })
      (paid-falls (parser_steps s) (parser_steps t) falls f.few)

  fits-run : (s : Parser F) (given : List (Option (Result I Fault))) (t : Parser F) → Calls step is_of s given t
      → Fits (parser_work s) (parser_steps s) → Fits (parser_work t) (parser_steps t)
  fits-run s [] t e f = subst (λ (p : Parser F). Fits (parser_work p) (parser_steps p)) e f
  fits-run s (given ∷ later) t (u, h, falls, more) f = fits-run u later t more (fits-next s given u h falls f)

fits-start : (work : Work) (left : ℕ) → work ≡ no_work → left < 2 ^ 62 → Fits work left
fits-start work left e l = rw e (record {
  few = l;
  delimiters = omega (arith, l);
  examined = omega (arith, l);
  items = omega (arith, l);
  code_visits = omega (arith, l);
  math_visits = omega (arith, l);
})

below-greatest : (work : Work) (left : ℕ) → Fits work left → AreBelowGreatest work
below-greatest work left f = record {
  delimiters = omega (arith, f.delimiters);
  examined = omega (arith, f.examined);
  items = omega (arith, f.items);
  code_visits = omega (arith, f.code_visits);
  math_visits = omega (arith, f.math_visits);
}

pub counts-law : {F : Type 0} (step : F → Question → Option Answer → F → Type 0) (p : Parser F)
    → parser_steps p < 2 ^ 62 → CountsLaw step p
counts-law step p few none =
    let start = fits-start (parser_work p) (parser_steps p) none few in (
      λ given t calls. below-greatest (parser_work t) (parser_steps t) (fits-run step IsEventOf p given t calls start),
      λ given t calls. below-greatest (parser_work t) (parser_steps t) (fits-run step IsPlacedOf p given t calls start),
    )

pub rises-plainly : RisesPlainly
rises-plainly zero count l = omega arith
rises-plainly (suc n) count l = omega (arith, l)
