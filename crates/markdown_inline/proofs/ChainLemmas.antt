-- A chain that is resolved in place: what a walk that is before it has left.
use Rattle.std.proofs.Common.{◌+◌, ◌≡◌, ℕ, ◌<◌, ◌≤◌, Bool, true, false, List, [], ◌∷◌, ◌++◌, map, length, Option, Some}
use Rattle.std.proofs.Common.{refl, ap, sym, ◌∙◌, ⊎_elim, arith, append_assoc}
use Rattle.std.specs.Prelude.{slice_range}
use Rattle.std.proofs.lemmas.Bool.{cases_lt}
use Rattle.std.proofs.lemmas.List.{map-append}
use Rattle.std.specs.declared.ops.Range.{Range}
use Rattle.markdown_base.specs.Arena.{child_of, sibling_of}
use Rattle.markdown_base.specs.ArenaForest.{Links, links_of, forest_at}
use Rattle.markdown_base.specs.ArenaWalk.{AllReach}
use Rattle.markdown_base.specs.BlockTree.{item_at}
use Rattle.markdown_base.specs.Questions.{Question, Answer, Answers}
use Rattle.markdown_document.specs.EnclosingBlocks.{EnclosingBlocks, above_at, no_blocks}
use Rattle.markdown_document.specs.Setting.{ReferenceState, Setting}
use Rattle.markdown_inline.specs.Elements.{Element, question, Reading, Passage, nothing_read, then_reads}
use Rattle.markdown_base.specs.Event.{start, end, tag_end, hard_break}
use Rattle.markdown_base.specs.Forest.{Forest, nil, node}
use Rattle.markdown_base.specs.Item.{is_open}
use Rattle.markdown_base.specs.declared.item.Item.{Item}
use Rattle.markdown_base.specs.declared.item.ItemBody.{ItemBody}
use Rattle.markdown_base.specs.declared.node.Node.{Node}
use Rattle.markdown_base.proofs.ArenaForestLemmas.{opens}
use Rattle.markdown_document.specs.ResolverStates.{ResolverState, state_at, chain_at, times_in}
use Rattle.markdown_resolver.specs.Chains.{AreAbove, ResolvesFrom, CanResolve, StopsIn}
use Rattle.markdown_inline.specs.Moves.{BeginsWithEvent}
use Rattle.markdown_inline.specs.Reading.{reading_opened, closed_reading, then_resolved, chain_reading, reading}
use Rattle.markdown_inline.specs.Walk.{after_chain, left_of}
use Rattle.markdown_document.specs.Places.{tree_node_at, trees_from}
use Rattle.markdown_document.specs.PlacedNodes.{IsPlaced}
use Rattle.markdown_resolver.specs.PassOne.{Outcome}
use Rattle.markdown_resolver.specs.Resolved.{resolved, all_paired}
use Rattle.markdown_document.specs.Document.{no_notes, Plain, Shape, leaf, enclosed, plain, backslash_break, unresolved}
use Rattle.markdown_document.specs.Document.{is_unresolved, shape_of}
use Rattle.markdown_document.specs.TreeNodes.{GivesFirst, Begins}
use Rattle.markdown_resolver.specs.Unread.{IsUnread}
use Rattle.markdown_resolver.specs.KeptChains.{IsClosedChain}
use Rattle.markdown_document.specs.Totals.{same}
use Rattle.markdown_document.specs.NamedEntries.{naming, Named, number_of, size_for}
use Rattle.markdown_document.specs.Tables.{Tables}
use Rattle.markdown_document.specs.declared.work.Work.{Work}
use Rattle.markdown_document.proofs.TablesLemmas.{same-apart, grown-same, grown-longer, same-refl}
use Rattle.markdown_document.proofs.PlaceLemmas.{times-past, named-past, shape-open}
use Rattle.markdown_inline.specs.WalkTotals.{climbed, left_total, steps_of}
use Rattle.markdown_inline.specs.Standing.{SpineLies, Stands}
use Rattle.markdown_inline.proofs.LeftFrameLemmas.{AboveFramed, above_framed}
use Rattle.markdown_inline.proofs.ReadingLemmas.{SameElements, reading-literal, opened-open}
use Rattle.markdown_resolver.proofs.ResolvingLemmas.{resolved-literal, resolved-begins, IsKept-from_IsClosedChain}

pub times_above-past : (k : Links) (p : ℕ → Type 0) (spine : List ℕ) (n : ℕ) → AllReach k p spine → k.size ≤ n
    → climbed (same n) (same n) k spine ≡ 0
times_above-past k p [] n r z = refl
times_above-past k p (ix ∷ deeper) n r z =
    omega (
      arith,
      same-apart n ix (omega (arith, r.0, z)),
      times-past k (k.next ix) (forest_at k (k.next ix)) n r.1.spelled z,
      times_above-past k p deeper n r.2 z,
    )

pub named_above-past : (source : List ℕ) (tables : Tables) (nodes : List (Node Item)) (spine : List ℕ) (n : Named)
    → AllReach (links_of nodes) (IsPlaced source tables nodes) spine → size_for tables n ≤ number_of n
    → climbed (λ ix. 0) (naming nodes n) (links_of nodes) spine ≡ 0
named_above-past source tables nodes [] n r z = refl
named_above-past source tables nodes (ix ∷ deeper) n r z =
    omega (
      arith,
      named-past source tables nodes (forest_at (links_of nodes) (sibling_of nodes ix)) n r.1.each z,
      named_above-past source
          tables nodes deeper n r.2 z,
    )

-- one that gives an event at once is not open
gives-closed : (tables : Tables) (source : List ℕ) (b : ItemBody) (is : Bool) → is_open b ≡ is
    → GivesFirst (shape_of tables source b)
    → is ≡ false
gives-closed tables source b true e g = absurd (rw (shape-open tables source b e) at g)
gives-closed tables source b false e g = refl

opened-begins : (shape : Shape) (range : Range ℕ) (inside : Reading → Reading) (after whole : Reading)
    (state : ReferenceState) → GivesFirst shape
    → BeginsWithEvent (reading_opened shape range inside after whole state)
opened-begins (leaf e origins) range inside after whole state h = record
    { first = (e, range, origins); rest = after state; is = refl }
opened-begins (enclosed tag origins) range inside after whole state h = record {
  first = (start tag, range, origins);
  rest =
      inside (then_reads (end (tag_end tag), range, []) after) state;
  is = refl;
}
opened-begins plain range inside after whole state h = absurd h
opened-begins backslash_break range inside after whole state h = record
    { first = (hard_break, range, []); rest = after state; is = refl }
opened-begins (unresolved b) range inside after whole state h = absurd h

reading-begins : (f : Forest Plain) (s : Setting) (above : EnclosingBlocks) (after : Reading)
    (state : ReferenceState) → Begins f
    → BeginsWithEvent (reading s no_notes above f after state)
reading-begins nil s above after state h = absurd h
reading-begins (node a below later) s above after state h = opened-begins a.part.shape a.part.range _ _ _ state h

-- from one state to another a chain was resolved
pub record ChainMoves (s : Setting) (tables tables' : Tables) (nodes nodes' : List (Node Item)) (first : ℕ)
    (spine : List ℕ)
    (before now : Answers → ReferenceState) (questions : List Question) (answers : Answers) : Type 0 where
  pub stands : Stands s.text tables' nodes' (Some first) spine
  pub left : (later : Answers) → (left_of s tables nodes (Some first) spine (before (answers ++ later))).elements
      ≡ map question questions ++ (left_of s tables' nodes' (Some first) spine (now later)).elements
  pub begins : (state : ReferenceState) → BeginsWithEvent (left_of s tables' nodes' (Some first) spine state)
  pub falls : steps_of nodes' (Some first) spine < steps_of nodes (Some first) spine

-- numbers above are those of nodes, and entries that are referred to there are in the tables
above_within : (k : Links) (p : ℕ → Type 0) (spine : List ℕ) (n : ℕ) → AllReach k p spine
    → 0 < climbed (same n) (same n) k spine
    → n < k.size
above_within k p spine n r l = ⊎_elim (λ h. h) (λ h. absurd (omega (arith, times_above-past k p spine n r h, l)))
    (cases_lt n k.size)

above_named : (source : List ℕ) (tables : Tables) (nodes : List (Node Item)) (spine : List ℕ) (n : Named)
    → AllReach (links_of nodes) (IsPlaced source tables nodes) spine
    → 0 < climbed (λ ix. 0) (naming nodes n) (links_of nodes) spine → number_of n < size_for tables n
above_named source tables nodes spine n r l = ⊎_elim (λ h. h)
    (λ h. absurd (omega (arith, named_above-past source tables nodes spine n r h, l)))
    (cases_lt (number_of n) (size_for tables n))

-- what is above a chain stays when the chain is resolved
above_chain : {C : Type 0} (step : C → Question → Option Answer → C → Type 0) (s : Setting) (first : ℕ) (spine : List ℕ)
    (old new : ResolverState C) → Stands s.text old.tables old.nodes (Some first) spine
    → ResolvesFrom step s.text (resolved s no_notes (above_at s.text old.nodes spine)) (Some first) old new
    → AboveFramed s old.tables new.tables old.nodes new.nodes spine
unfolding left_total
above_chain step s first spine old new w r =
    above_framed s old.tables new.tables old.nodes new.nodes spine r.changes.more_nodes
    (grown-longer old.tables new.tables r.changes.grown)
    w.walk.above w.above_kept w.spine_lies
    (λ n l. r.changes.outside n
    (above_within (links_of old.nodes) (IsPlaced s.text old.tables old.nodes) spine n w.walk.above l)
    (omega (arith, w.once n, l)))
    (λ n l. grown-same old.tables new.tables n r.changes.grown
    (above_named s.text old.tables old.nodes spine n w.walk.above l))

-- the chain is ready to be resolved
pub can_resolve : (source : List ℕ) (tables : Tables) (nodes : List (Node Item)) (first : ℕ) (spine : List ℕ)
    → Stands source tables nodes (Some first) spine → is_open (item_at nodes first).body ≡ true
    → CanResolve source tables nodes (Some first)
unfolding left_total
can_resolve source tables nodes first spine w e =
    let o = opens (links_of nodes) (IsPlaced source tables nodes) first w.walk.here in
    let open_shape = shape-open tables (slice_range source (item_at nodes first).start (item_at nodes first).end)
    (item_at nodes first).body
    e in
    record {
      reaches = w.walk.here;
      once = λ n. let x = w.once n in omega arith;
      named_once = λ n. let x = w.named_once n in omega arith;
      quiet_below = rw o.here ((rw o.here at w.here_kept).0 (ap is_unresolved open_shape)).0;
    }

-- and what has still to be read comes last
pub is_unread : (source : List ℕ) (tables : Tables) (nodes : List (Node Item)) (first : ℕ) (spine : List ℕ)
    → Stands source tables nodes (Some first) spine → is_open (item_at nodes first).body ≡ true
    → IsUnread (trees_from source tables nodes (Some first))
is_unread source tables nodes first spine w e =
    let o = opens (links_of nodes) (IsPlaced source tables nodes) first w.walk.here in
    let open_shape = shape-open tables (slice_range source (item_at nodes first).start (item_at nodes first).end)
    (item_at nodes first).body
    e in
    rw o.here ((rw o.here at w.here_kept).0 (ap is_unresolved open_shape)).1

-- the nodes that were entered exist, lie in the text, and are not in the chain at hand
nodes_above : (source : List ℕ) (k : Links) (nodes : List (Node Item)) (p : ℕ → Type 0) (l : Option ℕ) (spine : List ℕ)
    → k ≡ links_of nodes
    → AllReach k p spine → SpineLies source nodes spine
    → ((n : ℕ) → times_in nodes l n + climbed (same n) (same n) k spine ≤ 1) → AreAbove source nodes l spine
nodes_above source k nodes p l [] e r lies h = tt
nodes_above source k nodes p l (ix ∷ deeper) e r lies h = (
  record { within = rw e at r.0; lies = lies.0; apart = let x = h ix in let one = same-refl ix in omega arith },
  nodes_above source k nodes p l deeper e r.2 lies.1 (λ n. let x = h n in omega arith),
)

pub are_above : (source : List ℕ) (tables : Tables) (nodes : List (Node Item)) (first : ℕ) (spine : List ℕ)
    → Stands source tables nodes (Some first) spine → AreAbove source nodes (Some first) spine
unfolding left_total
are_above source tables nodes first spine w = nodes_above source (links_of nodes) nodes (IsPlaced source tables nodes)
    (Some first) spine
    refl w.walk.above w.spine_lies w.once

-- what is left before a chain, where its first item is open
pub chain_left : (s : Setting) (tables : Tables) (nodes : List (Node Item)) (first : ℕ) (spine : List ℕ)
    (state : ReferenceState) → Stands s.text tables nodes (Some first) spine → is_open (item_at nodes first).body ≡ true
    → left_of s tables nodes (Some first) spine state ≡ chain_reading s no_notes (above_at s.text nodes spine)
    (trees_from s.text tables nodes (Some first)) (after_chain s (no_blocks s.text) tables nodes spine nothing_read)
    state
unfolding left_of
chain_left s tables nodes first spine state w e =
    let o = opens (links_of nodes) (IsPlaced s.text tables nodes) first w.walk.here in
    let open_shape = shape-open tables (slice_range s.text (item_at nodes first).start (item_at nodes first).end)
    (item_at nodes first).body
    e in
    let blocks = above_at s.text nodes spine in
    let after = after_chain s (no_blocks s.text) tables nodes spine nothing_read in
    let whole : reading s no_notes blocks (trees_from s.text tables nodes (Some first)) after
    ≡ chain_reading s no_notes blocks (trees_from s.text tables nodes (Some first)) after =
    rw o.here (opened-open (tree_node_at s.text tables nodes first).part.shape _ _ _ _ (ap is_unresolved open_shape)) in
    ap (λ (x : Reading). x state) whole

pub moves_chain : {C : Type 0} (step : C → Question → Option Answer → C → Type 0) (s : Setting) (first : ℕ)
    (spine : List ℕ) (old new : ResolverState C)
    → Stands s.text old.tables old.nodes (Some first) spine → is_open (item_at old.nodes first).body ≡ true
    → (r : ResolvesFrom step s.text (resolved s no_notes (above_at s.text old.nodes spine)) (Some first) old new)
    → ChainMoves s old.tables new.tables old.nodes new.nodes first spine (state_at old) (state_at new) r.questions
    r.answers
unfolding left_of left_total
moves_chain step s first spine old new w e r =
    let o = opens (links_of old.nodes) (IsPlaced s.text old.tables old.nodes) first w.walk.here in
    let open_shape = shape-open old.tables
    (slice_range s.text (item_at old.nodes first).start (item_at old.nodes first).end)
    (item_at old.nodes first).body e in
    let ready = can_resolve s.text old.tables old.nodes first spine w e in
    let above = above_chain step s first spine old new w r in
    let made = trees_from s.text new.tables new.nodes (Some first) in
    let chain = trees_from s.text old.tables old.nodes (Some first) in
    let blocks = above_at s.text old.nodes spine in
    let after = after_chain s (no_blocks s.text) old.tables old.nodes spine nothing_read in
    let literal : IsClosedChain made = rw (r.resolves []) at
    (resolved-literal s no_notes blocks chain (state_at old (r.answers ++ []))
    ready.quiet_below) in
    let begins : Begins made =
    rw (rw o.here at (r.resolves [])) at
    (resolved-begins s no_notes blocks (tree_node_at s.text old.tables old.nodes first)
    (trees_from s.text old.tables old.nodes (child_of old.nodes first))
    (trees_from s.text old.tables old.nodes (sibling_of old.nodes first)) (state_at old (r.answers ++ []))
    (ap is_unresolved open_shape)) in
    let after' = after_chain s (no_blocks s.text) new.tables new.nodes spine nothing_read in
    let now : SameElements (reading s no_notes (above_at s.text new.nodes spine) made after')
    (closed_reading (all_paired s made) after) =
    rw (above.blocks (no_blocks s.text), above.around (no_blocks s.text) nothing_read)
    (reading-literal s blocks made after literal) in
    let n = opens (links_of new.nodes) (IsPlaced s.text new.tables new.nodes) first r.changes.reaches in
    let item = item_at new.nodes first in
    let closed : is_open item.body ≡ false = gives-closed new.tables (slice_range s.text item.start item.end) item.body
    (is_open item.body)
    refl (rw n.here at begins) in
    record {
      stands = record {
        walk = record { here = r.changes.reaches; above = above.reach };
        once = λ n. rw (above.times n) (⊎_elim
            (λ l. let x = w.once n in let y = r.changes.of_chain n l in omega arith)
            (λ l. let x = times_above-past (links_of old.nodes) (IsPlaced s.text old.tables old.nodes) spine n
            w.walk.above l
            in let y = r.changes.once n in omega arith)
            (cases_lt n (length old.nodes)));
        named_once = λ n. rw (above.naming n) (⊎_elim
            (λ l. let x = w.named_once n in let y = r.changes.named n l in omega arith)
            (λ l. let x = named_above-past s.text old.tables old.nodes spine n w.walk.above l in let y
            = r.changes.named_once n
            in omega arith)
            (cases_lt (number_of n) (size_for old.tables n)));
        here_kept = IsKept-from_IsClosedChain made literal;
        above_kept = above.kept;
        spine_lies = above.lies;
      };
      left = λ later.
          let state = state_at old (r.answers ++ later) in
          ap (λ (x : Passage). x.elements) (chain_left s old.tables old.nodes first spine state w e)
          ∙ rw (r.resolves later)
          (ap (λ (es : List Element). map question r.questions ++ es) (sym (now (state_at new later))));
      begins = λ state. reading-begins made s (above_at s.text new.nodes spine) after' state begins;
      falls = rw (above.steps, closed, e) (let x = r.changes.no_heavier in omega arith);
    }

more_questions : (s : Setting) (r : Outcome (Unit {0})) (after : Reading) (questions others : List Question)
    → r.questions ≡ questions ++ others
    → (es : List Element) × (then_resolved s r after ≡ map question questions ++ es)
more_questions s r after questions others e = (
  map question others ++ (closed_reading (all_paired s r.forest) after r.state).elements,
  rw e
      (simp (map-append, append_assoc)),
)

-- if an allocation fails on the way, what was left begins with the questions asked
pub stops_chain : {C : Type 0} (step : C → Question → Option Answer → C → Type 0) (s : Setting) (first : ℕ)
    (spine : List ℕ) (old : ResolverState C) (d : Option C) (work work' : Work)
    → Stands s.text old.tables old.nodes (Some first) spine → is_open (item_at old.nodes first).body ≡ true
    → (r : StopsIn step s (above_at s.text old.nodes spine) first old d work work')
    → (later : Answers) → (others : List Element)
    × ((left_of s old.tables old.nodes (Some first) spine (state_at old (r.answers ++ later))).elements
    ≡ map question r.questions ++ others)
stops_chain step s first spine old d work work' w e r later =
    let b = r.begins later in
    let state = state_at old (r.answers ++ later) in
    rw (chain_left s old.tables old.nodes first spine state w e)
    (more_questions s (resolved s no_notes (above_at s.text old.nodes spine) (chain_at s.text old (Some first)) state)
    (after_chain s (no_blocks s.text) old.tables old.nodes spine nothing_read) r.questions b.0 b.1)
