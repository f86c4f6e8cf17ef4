-- What was found is put into a first node: what the rules of a chain become of it, once what is left is rewritten.
use Rattle.std.proofs.Common.{◌≡◌, ℕ, zero, suc, ◌+◌, ◌<◌, ◌≤◌, Bool, true, false, List, [], ◌∷◌, length, Option, Some}
use Rattle.std.proofs.Common.{None, refl, sym, ap, ◌∙◌, subst, ⊎_elim, arith, if◌then◌else◌, nat_le, max}
use Rattle.std.proofs.lemmas.Bool.{cases_lt}
use Rattle.std.specs.Prelude.{IfSome, IsCharBoundary}
use Rattle.std.specs.Option.{option_map}
use Rattle.markdown_base.specs.Arena.{child_of, sibling_of}
use Rattle.markdown_base.specs.ArenaChanges.{changed_at}
use Rattle.markdown_base.specs.ArenaForest.{Spells, forest_at, links_of}
use Rattle.markdown_base.specs.ArenaWalk.{Reaches}
use Rattle.markdown_base.specs.BlockTree.{Numbered, numbered, item_at}
use Rattle.markdown_base.specs.Forest.{Forest, nil, node, roots}
use Rattle.markdown_base.specs.Item.{is_open}
use Rattle.markdown_base.specs.WellFormed.{RunCharacter, run_character, RunGoesOn, StandsInRun, RunsAreWhole}
use Rattle.markdown_base.specs.declared.item.Item.{Item}
use Rattle.markdown_base.specs.declared.item.ItemBody.TheVariants as body
use Rattle.markdown_base.specs.declared.node.Node.{Node}
use Rattle.markdown_base.proofs.ArenaForestLemmas.{opens}
use Rattle.markdown_base.proofs.ArenaLemmas.{length-changed_at}
use Rattle.markdown_base.proofs.WellFormedLemmas.{closed_no_run}
use Rattle.markdown_document.specs.ChainRest.{begun_at, end_of, joined_chains, past, past_byte}
use Rattle.markdown_document.specs.Document.{Plain, tree_node_of}
use Rattle.markdown_document.specs.ItemRules.{ComesBefore}
use Rattle.markdown_document.specs.Places.{tree_node_at, trees_from, origin_start}
use Rattle.markdown_document.specs.PlacedNodes.{IsSameAt, IsPlaced}
use Rattle.markdown_document.specs.ResolverStates.{times_in, weight_in}
use Rattle.markdown_document.specs.Tables.{Tables}
use Rattle.markdown_document.specs.Totals.{total, same, weight_at}
use Rattle.markdown_document.proofs.AboveLemmas.{open-no-block}
use Rattle.markdown_document.proofs.PlaceLemmas.{times-past, some_weight}
use Rattle.markdown_document.proofs.TablesLemmas.{same-refl}
use Rattle.markdown_spans.specs.ChainInArena.{LeadsThrough}
use Rattle.markdown_resolver.specs.Chains.{CanResolve}
use Rattle.markdown_resolver.specs.Kept.{IsQuietBelow}
use Rattle.markdown_resolver.specs.Rewritten.{RunsGoOn, Rewrites, Standing, replaced, first_past, begun_item}
use Rattle.markdown_resolver.specs.Rewritten.{LeavesRest, MayBeCut, numbered_past_byte}
use Rattle.markdown_resolver.specs.LiteralText.{begun_from}
use Rattle.markdown_resolver.proofs.NodeChangeLemmas.{changed_other, changed_here}
use Rattle.markdown_resolver.proofs.ComposeLemmas.{same_trans, Stands, stands_ready, Moves, moves_change, moves_none}
use Rattle.markdown_resolver.proofs.ComposeLemmas.{moves_twice, HeadWritten, HeadMoved, after_head}
use Rattle.markdown_resolver.proofs.PastByteLemmas.{left_past, first_begun, past_is, dropped, Dropped, begun_is}
use Rattle.markdown_resolver.proofs.ChainOrderLemmas.{AllPast, IsFirstPast, first_is_past, leads_kept, leads_above}
use Rattle.markdown_resolver.proofs.ChainOrderLemmas.{leads_left, numbered_left, numbered_begun, numbered_past_is}

-- nothing is rewritten
pub rewrites_none : {source : List ℕ} {l : Option ℕ} {nodes : List (Node Item)} {tables : Tables}
    → Stands source tables nodes l → Rewrites source (λ f. f) l nodes nodes tables tables
rewrites_none s = record {
  changes = moves_change (moves_none s) (λ a h. h);
  runs = λ a h. h;
  rewritten = refl;
}

-- a link to a node stays where an item is begun
next_begun : (nodes : List (Node Item)) (jx : ℕ) (item : Item) (n : ℕ)
    → sibling_of (changed_at jx (λ m. record m { item = item }) nodes) n ≡ sibling_of nodes n
next_begun [] jx item n = refl
next_begun (m ∷ nodes) zero item zero = refl
next_begun (m ∷ nodes) zero item (suc n) = refl
next_begun (m ∷ nodes) (suc jx) item zero = refl
next_begun (m ∷ nodes) (suc jx) item (suc n) = next_begun nodes jx item n

pub next_from : (nodes : List (Node Item)) (l : Option ℕ) (i n : ℕ) → sibling_of (begun_from l i nodes) n
    ≡ sibling_of nodes n
next_from nodes None i n = refl
next_from nodes (Some jx) i n = next_begun nodes jx (begun_item i (item_at nodes jx)) n

-- a node precedes what follows it
pub over_numbers : (source : List ℕ) (opener : ℕ) (next : Option ℕ) (place : List (Node Item)) (t : Tables)
    → Reaches (links_of place) (IsPlaced source t place) (Some opener)
    → sibling_of place opener ≡ next → roots (forest_at (links_of place) (Some opener))
    ≡ opener ∷ roots (forest_at (links_of place) next)
over_numbers source opener next place t reaches link =
    let o = opens (links_of place) (IsPlaced source t place) opener reaches in
    ap (λ (g : Forest ℕ). roots g) o.here ∙ ap (λ (l : Option ℕ). opener ∷ roots (forest_at (links_of place) l)) link

-- what is left of a chain without blocks has none either
quiet_if : (b : Bool) (i : ℕ) (a : Plain) (below after rest : Forest Plain) → IsQuietBelow rest
    → IsQuietBelow (node a below after) → IsQuietBelow (if b then rest else node (begun_at i a) below after)
quiet_if true i a below after rest r h = r
quiet_if false i a below after rest r h = h

pub quiet_past_byte : (i : ℕ) (f : Forest Plain) → IsQuietBelow f → IsQuietBelow (past_byte i f)
quiet_past_byte i nil h = h
quiet_past_byte i (node a below after) h = quiet_if (nat_le (end_of a) i) i a below after (past_byte i after)
    (quiet_past_byte i after h.2) h

quiet_past : (goes_on : Option ℕ) (f : Forest Plain) → IsQuietBelow f → IsQuietBelow (past goes_on f)
quiet_past None f h = h
quiet_past (Some i) f h = quiet_past_byte i f h

-- the first item was read in place, if what is left reads as what follows it, past a byte offset
pub leaves_rest : (source : List ℕ) (ix : ℕ) (old mid new : List (Node Item)) (tables t tables' : Tables)
    (next goes_on : Option ℕ) → CanResolve source tables old (Some ix) → HeadWritten source ix old mid tables t
    → Moves source (sibling_of old ix) next mid new t tables'
    → trees_from source tables' new next ≡ past goes_on (trees_from source tables old (sibling_of old ix))
    → LeavesRest source ix next old new tables'
leaves_rest source ix old mid new tables t tables' next goes_on ready h m reads =
    let a = after_head (stands_ready ready) h in
    let rest = trees_from source tables old (sibling_of old ix) in
    let quiet : IsQuietBelow rest = (rw a.here at ready.quiet_below).2 in
    let size : length old ≤ length mid = h.more in
    let weight : weight_in new next ≤ weight_in old (sibling_of old ix) = rw (← a.rest.weight) m.no_heavier in
    let two : 2 ≤ weight_at old ix = some_weight (is_open (item_at old ix).body) in
    let times : (n : ℕ) → n < length old → times_in new next n ≤ times_in old (sibling_of old ix) n = λ n l. rw
    (← a.rest.forest) (m.of_chain n (omega (arith, l, size))) in
    record {
      ready = record {
        reaches = m.stands.reaches;
        once = m.stands.once;
        named_once = m.stands.named_once;
        quiet_below = rw reads (quiet_past goes_on rest quiet);
      };
      lighter = rw a.here (omega arith);
      of_chain = λ n l. let y = times n l in rw a.here (omega arith);
      more_nodes = omega (arith, size, m.more_nodes);
      outside = λ n l z.
          let x : total (same n)
          (node ix (forest_at (links_of old) (child_of old ix)) (forest_at (links_of old) (sibling_of old ix)))
          ≡ 0 = rw a.here at z in
          let one = same-refl n in
          let other = λ (e : n ≡ ix). let at : same n ix ≡ 1 = subst (λ (m : ℕ). same n m ≡ 1) e one
          in let y : ⊥ = absurd (omega (arith, x, at)) in y in
          let apart : times_in mid (sibling_of old ix) n ≡ 0 = rw a.rest.forest (omega (arith, x)) in
          same_trans (h.others n l other) (m.outside n (omega (arith, l, size)) apart);
    }

-- in the end, the whole is rewritten by the trees that replace the first, and the rule
pub whole_put : (source : List ℕ) (ix : ℕ) (old mid new : List (Node Item)) (tables t later : Tables) (trees : Standing)
    (goes_on : Option ℕ) (rule : Forest Plain → Forest Plain)
    → CanResolve source tables old (Some ix) → HeadWritten source ix old mid tables t
    → HeadMoved source ix old mid new tables t later
    → ((a : Numbered) → ComesBefore a (Some (numbered old ix)) → ComesBefore a (Some (numbered mid ix)))
    → RunsGoOn source old mid (Some ix)
    → node (tree_node_of source t (item_at mid ix)) (trees_from source later new (child_of mid ix))
    (trees_from source later new (sibling_of mid ix))
    ≡ joined_chains (trees (tree_node_at source tables old ix) (trees_from source tables old (child_of old ix)))
    (rule (past goes_on (trees_from source tables old (sibling_of old ix))))
    → Rewrites source (replaced trees goes_on rule) (Some ix) old new tables later
whole_put source ix old mid new tables t later trees goes_on rule ready h hm before runs reads =
    let a = after_head (stands_ready ready) h in
    record {
      changes = moves_change hm.moves (λ b stands. rw hm.item (before b stands));
      runs = λ b whole. rw hm.item (runs b whole);
      rewritten = hm.trees ∙ reads ∙ rw a.here refl;
    }

pub record ClosesAt (ix : ℕ) (old mid : List (Node Item)) : Type 0 where
  pub was_open : is_open (item_at old ix).body ≡ true
  pub was_no_run : run_character (item_at old ix).body ≡ None
  pub closed : is_open (item_at mid ix).body ≡ false
  pub starts : (item_at mid ix).start ≡ (item_at old ix).start

pub before_closed : (ix : ℕ) (old mid : List (Node Item)) (a : Numbered) → ClosesAt ix old mid
    → ComesBefore a (Some (numbered old ix)) → ComesBefore a (Some (numbered mid ix))
before_closed ix old mid a c stands = λ x y.
    let p = stands x (open-no-block (item_at old ix).body c.was_open) in
    record { ends = rw c.starts p.ends; numbers = p.numbers }

goes_on_closed : (source : List ℕ) (a b b' : Numbered) (count : ℕ) (opens closes : Bool) → run_character b.item.body
    ≡ None → run_character b'.item.body ≡ None → RunGoesOn source a count opens closes (Some b)
    → RunGoesOn source a count opens closes (Some b')
goes_on_closed source a b b' zero opens closes none none' h = h
goes_on_closed source a b b' (suc zero) opens closes none none' h = rw none' tt
goes_on_closed source a b b' (suc (suc n)) opens closes none none' h = cc (none, h.body)

pub run_closed : (source : List ℕ) (a b b' : Numbered) (o : Option RunCharacter) → run_character b.item.body ≡ None
    → run_character b'.item.body ≡ None → IfSome o (StandsInRun source a (Some b))
    → IfSome o (StandsInRun source a (Some b'))
run_closed source a b b' None none none' h = h
run_closed source a b b' (Some c) none none' h = record {
  one_byte = h.one_byte;
  delimiter = h.delimiter;
  goes_on = goes_on_closed source a b b' c.count c.can_open c.can_close none none' h.goes_on;
}

pub runs_closed : (source : List ℕ) (ix : ℕ) (old mid : List (Node Item)) → ClosesAt ix old mid
    → RunsGoOn source old mid (Some ix)
runs_closed source ix old mid c = λ a whole.
    run_closed source a (numbered old ix) (numbered mid ix) (run_character a.item.body) c.was_no_run
    (closed_no_run (item_at mid ix).body c.closed) whole

-- what is not open begins no run
pub no_run_here : (source : List ℕ) (a : Numbered) (next : Option Numbered) → is_open a.item.body ≡ false
    → RunsAreWhole source a next
no_run_here source a next h = rw (closed_no_run a.item.body h) tt

-- of a forest whose items stay the same is the first past a byte
pub first_kept : (old new : List (Node Item)) (i : ℕ) (f : Forest ℕ)
    → ((n : ℕ) → 0 < total (same n) f → item_at new n ≡ item_at old n)
    → first_past new i (roots f) ≡ first_past old i (roots f)
first_kept old new i nil h = refl
first_kept old new i (node ix below after) h =
    let one = same-refl ix in
    rw (h ix (omega (arith, one)), first_kept old new i after (λ n l. h n (omega (arith, l)))) refl

first_there_if : (b : Bool) (n ix : ℕ) (l : Option ℕ) (rest : ℕ) → (l ≡ Some ix → 0 < rest) → (if b then l else Some n)
    ≡ Some ix → 0 < same ix n + rest
first_there_if true n ix l rest h e = omega (arith, h e)
first_there_if false n ix l rest h e =
    let e' : n ≡ ix = cc e in
    let one : same ix n ≡ 1 = subst (λ (m : ℕ). same m n ≡ 1) e' (same-refl n) in
    omega (arith, one)

pub first_there : (nodes : List (Node Item)) (i ix : ℕ) (f : Forest ℕ) → first_past nodes i (roots f) ≡ Some ix
    → 0 < total (same ix) f
first_there nodes i ix nil e = cc e
first_there nodes i ix (node n below after) e =
    let h = first_there_if (nat_le (item_at nodes n).end i) n ix (first_past nodes i (roots after))
    (total (same ix) after) (λ k. first_there nodes i ix after k) e in
    omega (arith, h)

-- links lead on where the first item begins at a byte
pub leads_begun : (nodes : List (Node Item)) (i : ℕ) (l : Option ℕ) (low : ℕ) (chain : List Numbered)
    → LeadsThrough nodes low l chain → LeadsThrough (begun_from l i nodes) low l (numbered_begun i chain)
leads_begun nodes i l low [] h = h
leads_begun nodes i None low (a ∷ after) h = absurd (cc h.0)
leads_begun nodes i (Some ix) low (a ∷ after) h =
    let change : Node Item → Node Item = λ n. record n { item = begun_item i (item_at nodes ix) } in
    let same_number : ix ≡ a.number = cc (h.0) in
    let size = length-changed_at ix change nodes in
    let within : ix < length nodes = subst (λ (n : ℕ). n < length nodes) (sym same_number) h.2 in
    let c = changed_here nodes ix change within in
    let there = within in
    let go : LeadsThrough (begun_from (Some ix) i nodes) (suc ix) (sibling_of nodes ix) after =
    leads_above nodes (begun_from (Some ix) i nodes) (sibling_of nodes ix) (suc ix) after (omega (arith, size))
    (λ n le. changed_other nodes ix change n (λ e. absurd (omega (arith, le, e))))
    (subst (λ (n : ℕ). LeadsThrough nodes (suc n) (sibling_of nodes n) after) (sym same_number) h.4) in
    let item_is : item_at nodes ix ≡ a.item = subst (λ (n : ℕ). item_at nodes n ≡ a.item) (sym same_number) h.3 in
    subst (λ (n : ℕ). (Some ix ≡ Some n) × (low ≤ n) × (n < length (begun_from (Some ix) i nodes))
    × (item_at (begun_from (Some ix) i nodes) n ≡ begun_item i a.item)
    × LeadsThrough (begun_from (Some ix) i nodes) (suc n) (sibling_of (begun_from (Some ix) i nodes) n) after)
    same_number (
      refl,
      subst (λ (n : ℕ). low ≤ n) (sym same_number) h.1,
      omega (arith, size, there),
      c.item ∙ ap (λ x. begun_item i x) item_is,
      rw c.next go,
    )

-- what follows the written node is there, and stays
pub rest_within : {source : List ℕ} {ix : ℕ} {old mid : List (Node Item)} {tables t : Tables}
    → Stands source tables old (Some ix) → HeadWritten source ix old mid tables t
    → (n : ℕ) → 0 < times_in old (sibling_of old ix) n → n < length old
rest_within {source} {ix} {old} {mid} {tables} {t} s h n k =
    let a = after_head s h in
    ⊎_elim (λ x. x) (λ x. absurd (omega (
      arith,
      times-past (links_of old) (sibling_of old ix) (forest_at (links_of old) (sibling_of old ix)) n a.after.spelled x,
      k,
    ))) (cases_lt n (length old))

pub rest_same : {source : List ℕ} {ix : ℕ} {old mid : List (Node Item)} {tables t : Tables}
    → Stands source tables old (Some ix) → HeadWritten source ix old mid tables t
    → (n : ℕ) → n < length old → 0 < times_in old (sibling_of old ix) n → IsSameAt old mid n
rest_same {source} {ix} {old} {mid} {tables} {t} s h n l k =
    let apart = (after_head s h).not_after in
    h.others n l (λ e. let z : times_in old (sibling_of old ix) n
    ≡ 0 = subst (λ (m : ℕ). times_in old (sibling_of old ix) m ≡ 0) (sym e) apart in absurd (omega (arith, k, z)))

-- what is left past a byte, once the first node is written: the link to it, and the nodes where it begins there
pub record RestPast (source : List ℕ) (ix i : ℕ) (old mid : List (Node Item)) (tables t : Tables) (next : Option ℕ)
    : Type 0 where
  pub moves : Moves source (sibling_of old ix) next mid (begun_from next i mid) t t
  pub reads : trees_from source t (begun_from next i mid) next
      ≡ past_byte i (trees_from source tables old (sibling_of old ix))
  pub follows : (a : Numbered) → a.number ≡ ix → a.item.end ≤ i
      → ComesBefore a (option_map (numbered (begun_from next i mid)) next)
  pub leads : (low : ℕ) (chain : List Numbered) → LeadsThrough old low (sibling_of old ix) chain
      → LeadsThrough (begun_from next i mid) low next (numbered_past_byte i chain)

follows_at : (nodes : List (Node Item)) (i ix : ℕ) (next : Option ℕ) (a : Numbered)
    → ((n : ℕ) → next ≡ Some n → (ix < n) × (n < length nodes)) → a.number ≡ ix → a.item.end ≤ i
    → ComesBefore a (option_map (numbered (begun_from next i nodes)) next)
follows_at nodes i ix None a places e le = tt
follows_at nodes i ix (Some n) a places e le = λ x y.
    let p = places n refl in
    let c = changed_here nodes n (λ m. record m { item = begun_item i (item_at nodes n) }) p.1 in
    let low = p.0 in
    record { ends = rw c.item (omega arith); numbers = omega (arith, e, low) }

pub rest_past_is : (source : List ℕ) (ix i : ℕ) (old mid : List (Node Item)) (tables t : Tables) (next : Option ℕ)
    (byte : ℕ) → Stands source tables old (Some ix) → HeadWritten source ix old mid tables t
    → next ≡ first_past old i (roots (forest_at (links_of old) (sibling_of old ix)))
    → AllPast old ix byte (roots (forest_at (links_of old) (sibling_of old ix)))
    → ((n : ℕ) → next ≡ Some n → (item_at old n).start < i → MayBeCut (item_at old n).body) → IsCharBoundary source i
    → RestPast source ix i old mid tables t next
rest_past_is source ix i old mid tables t next byte s h next_is past_all between boundary =
    let a = after_head s h in
    let l = sibling_of old ix in
    let f = forest_at (links_of old) l in
    let within : (n : ℕ) → 0 < total (same n) f → n < length old = λ n k. rest_within s h n k in
    let kept : (n : ℕ) → 0 < total (same n) f → IsSameAt old mid n = λ n k. rest_same s h n (within n k) k in
    let there : (n : ℕ) → next ≡ Some n → 0 < total (same n) f = λ n e. first_there old i n f (sym next_is ∙ e) in
    let first : (n : ℕ) → next ≡ Some n → IsFirstPast old ix byte i n = λ n e. first_is_past old ix byte i n (roots f)
    past_all (sym next_is ∙ e) in
    let link : first_past mid i (roots (forest_at (links_of mid) l)) ≡ next =
    ap (λ (g : Forest ℕ). first_past mid i (roots g)) a.rest.forest ∙ first_kept old mid i f (λ n k. (kept n k).item)
    ∙ sym next_is in
    let d : Dropped source t mid l next (left_past i (trees_from source t mid l)) = rw link at
    (dropped source t mid i (forest_at (links_of mid) l) l refl a.stands) in
    let b = begun_is source t mid next i d.moves.stands boundary
    (λ n e. let x = (first n e).ends in rw (kept n (there n e)).item (omega (arith, x)))
    (λ n e. rw (kept n (there n e)).item (λ k. (between n e k).closed)) (λ n e. rw (kept n (there n e)).item
    (λ k. (between n e k).no_slices source t (origin_start source (max (item_at old n).start i))
    (item_at old n).end)) in
    let spelled : Spells (links_of mid) l f = rw a.rest.forest at a.rest.reaches.spelled in
    let link' : first_past mid i (roots f) ≡ next = first_kept old mid i f (λ n k. (kept n k).item) ∙ sym next_is in
    let more : length old ≤ length mid = h.more in
    record {
      moves = moves_twice d.moves b.moves;
      reads = b.reads ∙ ap (λ (g : Forest Plain). first_begun i g)
          (d.reads ∙ ap (λ (g : Forest Plain). left_past i g) a.rest.trees)
          ∙ sym (past_is i (trees_from source tables old l));
      follows = λ x e le. follows_at mid i ix next x
          (λ n k. ((first n k).place.number, omega (arith, within n (there n k), more))) e le;
      leads = λ low chain k.
          let left : LeadsThrough mid low next (numbered_left i chain) = rw link' at
          (leads_left mid i l f low chain spelled
          (leads_kept old mid l f low chain a.after.spelled more (λ n w x. kept n x) k)) in
          rw (numbered_past_is i chain) (leads_begun mid i next low (numbered_left i chain) left);
    }
