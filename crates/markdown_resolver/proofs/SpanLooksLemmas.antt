-- How many items a search of a chain examines, where the chain is read on past what it found.
use Rattle.std.proofs.Common.{◌≡◌, ℕ, suc, ◌+◌, ◌≤◌, Bool, true, false, not, ◌==◌, List, ◌∷◌, ◌++◌, map, length, Option}
use Rattle.std.proofs.Common.{Some, None, refl, sym, ap, ◌∙◌, arith, subst}
use Rattle.std.specs.Prelude.{if◌then◌else◌, is_some}
use Rattle.std.specs.Option.{option_map}
use Rattle.std.proofs.lemmas.List.{length-map, map-append}
use Rattle.markdown_base.specs.Arena.{sibling_of}
use Rattle.markdown_base.specs.BlockTree.{Numbered, numbered, item_at}
use Rattle.markdown_base.specs.declared.item.Item.{Item}
use Rattle.markdown_base.specs.declared.item.ItemBody.{ItemBody}
use Rattle.markdown_base.specs.declared.item.ItemBody.TheVariants as body
use Rattle.markdown_base.specs.declared.node.Node.{Node}
use Rattle.markdown_document.specs.ResolverStates.{items_from}
use Rattle.markdown_document.specs.Tables.{Tables}
use Rattle.markdown_spans.specs.Closers.{Dollar, can_open, closing_count, code_close, context_of, first_dollar}
use Rattle.markdown_spans.specs.Closers.{math_close_from}
use Rattle.markdown_spans.specs.CloserSearches.{looked_for_code, looked_for_code_close, looked_for_math_from}
use Rattle.markdown_spans.specs.CloserSearches.{opens_code, searched_for_math}
use Rattle.markdown_spans.specs.ChainInArena.{LeadsThrough}
use Rattle.markdown_spans.specs.SpanClosers.{ClosesCode, ClosesMath, Learned, RisesBy, failed_by_now, has_failed}
use Rattle.markdown_spans.specs.SpanClosers.{item_in, unless_failed}
use Rattle.markdown_spans.specs.declared.span_closers.FoundMath.{FoundMath}
use Rattle.markdown_spans.proofs.VisitLemmas.{code_visit_law, math_visit_law}
use Rattle.markdown_resolver.specs.declared.continuation.Continuation.{Continuation}
use Rattle.markdown_resolver.specs.Chains.{CanResolve}
use Rattle.markdown_resolver.specs.Rewritten.{Puts, Standing, numbered_past}
use Rattle.markdown_resolver.specs.ReadsItem.{LooksAt, LooksAtMost}
use Rattle.markdown_resolver.proofs.FollowersLemmas.{InOrder, fewer_left, followers, items_led, opens_chain}
use Rattle.markdown_resolver.proofs.CodeSpanLemmas.{closed_code, closes_by_number}
use Rattle.markdown_resolver.proofs.MathSpanLemmas.{MathStands, close_of, math_by_number, stands_of}
use Rattle.markdown_resolver.proofs.SpanFindLemmas.{StandsAmong, code_close_shown, first_dollar_shown, math_from_shown}
use Rattle.markdown_resolver.proofs.SpanFindLemmas.{number_alike, searched_shown, shown_close, shown_dollar}
use Rattle.markdown_document.specs.Counts.{RisesAtMost}

-- a search examines no more items than there are; none without an opener; and where it finds, none past what is left
pub looks_at : (learned : Learned) (after searched found : Bool) (looked old new items items' : ℕ)
    → RisesBy (unless_failed learned looked) old new
    → after ≡ failed_by_now learned searched found → looked ≤ items → items' ≤ items → (searched ≡ false → looked ≡ 0)
    → (found ≡ true → looked + items' ≤ items) → LooksAt (has_failed learned) after old new items items'
looks_at None after searched found looked old new items items' rises failed within fewer unless past = record {
  more = looked;
  counted = rises;
  within = within;
  none = λ before. cc before;
  past = λ works. by searched found refl refl (sym failed ∙ works);
}
  where
    by : (s f : Bool) → searched ≡ s → found ≡ f → failed_by_now None searched found ≡ false → looked + items' ≤ items
    by s true is found_is works = past found_is
    by true false is found_is works = let failed = rw (is, found_is) at works in cc failed
    by false false is found_is works = omega (arith, unless is, fewer)
looks_at (Some state) after searched found looked old new items items' rises failed within fewer unless past = record {
  more = 0;
  counted = rises;
  within = omega arith;
  none = λ before. (refl, failed);
  past = λ works. cc (failed, works);
}

-- the number of items that are left of a chain
pub items_put : (source : List ℕ) (ix : ℕ) (trees : Standing) (goes_on : Option ℕ) (rest : Continuation)
    (old new : List (Node Item)) (tables tables' : Tables) → CanResolve source tables old (Some ix)
    → Puts source ix trees goes_on rest old new tables tables'
    → items_from new rest.next ≡ length (numbered_past goes_on (map (numbered old) (followers old ix)))
items_put source ix trees goes_on rest old new tables tables' ready puts =
    let o = opens_chain ready in
    let chain = map (numbered old) (followers old ix) in
    items_led source tables' new rest.next (suc ix) (numbered_past goes_on chain) puts.leaves.ready
    (puts.leads (suc ix) chain o.leads)

-- no search is made for backticks that open nothing
pub unless_code : (b : ItemBody) (chain : List Numbered) → opens_code b ≡ false → looked_for_code_close item_in b chain
    ≡ 0
unless_code (body.MaybeCode count escaped) chain h = by (closing_count count escaped == 0) h
  where
    by : (none : Bool) → not none ≡ false
        → (if none then 0 else looked_for_code item_in (closing_count count escaped) chain) ≡ 0
    by true h = refl
    by false h = cc h
unless_code other chain h = refl

-- where something closes code, the search ends there
up_to_closer : (nodes : List (Node Item)) (count : ℕ) (escaped : Bool) (xs : List ℕ) (x : ℕ) (among : StandsAmong xs x)
    → code_close (item_at nodes) (body.MaybeCode count escaped) xs ≡ Some x
    → looked_for_code_close item_in (body.MaybeCode count escaped) (map (numbered nodes) xs) + length among.after ≤
    length xs
up_to_closer nodes count escaped xs x among closes =
    let b = body.MaybeCode count escaped in
    let before = map (numbered nodes) among.before in
    let later = map (numbered nodes) among.after in
    let parts : map (numbered nodes) xs ≡ before ++ numbered nodes x ∷ later = ap (map (numbered nodes)) among.parts
    ∙ map-append (numbered nodes) among.before (x ∷ among.after) in
    let found : code_close item_in b (before ++ numbered nodes x ∷ later) ≡ Some (numbered nodes x) =
    ap (code_close item_in b) (sym parts) ∙ code_close_shown item_in (numbered nodes) nodes (number_alike nodes) count
    escaped xs ∙ ap (option_map (numbered nodes)) closes in
    let law = code_visit_law.before b before later (numbered nodes x) found in
    let size = length-map xs (numbered nodes) in
    let rest = length-map among.after (numbered nodes) in
    let all = ap length parts in
    rw parts (omega (arith, law, size, rest, all))

-- no search is made for a `$` that opens nothing
pub unless_math : (opener : Item) (chain : List Numbered) → can_open opener.body ≡ false
    → looked_for_math_from item_in opener chain ≡ 0
unless_math opener chain h = rw h refl

-- where something closes math, the search ends there
up_to_dollar : (nodes : List (Node Item)) (opener : Item) (xs : List ℕ) (m : FoundMath)
    → math_close_from (item_at nodes) opener xs ≡ Some (close_of m)
    → (stands : MathStands nodes opener.end (context_of opener.body) xs m)
    → looked_for_math_from item_in opener (map (numbered nodes) xs) + length stands.after ≤ length xs
up_to_dollar nodes opener xs m closes stands =
    let chain = map (numbered nodes) xs in
    let context = context_of opener.body in
    let d : Dollar Numbered = record { dollar = numbered nodes m.closer; after = map (numbered nodes) stands.after } in
    let found : is_some (math_close_from item_in opener chain) ≡ true =
    ap is_some (math_from_shown item_in (numbered nodes) nodes (number_alike nodes) opener xs
    ∙ ap (option_map (shown_close (numbered nodes))) closes) in
    let first : first_dollar item_in context (searched_for_math item_in chain) ≡ Some d =
    ap (first_dollar item_in context) (searched_shown item_in (numbered nodes) nodes (number_alike nodes) xs)
    ∙ first_dollar_shown item_in (numbered nodes) nodes (number_alike nodes) context
    (searched_for_math (item_at nodes) xs) ∙ ap (option_map (shown_dollar (numbered nodes))) stands.first in
    let law = math_visit_law.before opener chain d found first in
    omega (arith, law, length-map xs (numbered nodes), length-map stands.after (numbered nodes))

-- memory was refused to a search, which has learned nothing
refused_at : (learned : Learned) (looked old new items : ℕ) → RisesAtMost (unless_failed learned looked) old new
    → looked ≤ items → LooksAtMost (has_failed learned) (has_failed learned) old new items
refused_at None looked old new items at_most within = record {
  more = at_most.more;
  counted = at_most.counted;
  within = omega (arith, at_most.within, within);
  none = λ before. cc before;
  past = λ works. omega (arith, at_most.within, within);
}
refused_at (Some state) looked old new items at_most within = record {
  more = at_most.more;
  counted = at_most.counted;
  within = omega (arith, at_most.within);
  none = λ before. (omega (arith, at_most.within), refl);
  past = λ works. cc works;
}

-- a search from an opener: whether there is one, and how many items of a chain it examines
pub record Search : Type 0 where
  pub opens : Bool
  pub looked : List Numbered → ℕ
  pub within : (chain : List Numbered) → looked chain ≤ length chain
  pub unless : (chain : List Numbered) → opens ≡ false → looked chain ≡ 0

abbrev pub code_search : Item → Search
code_search opener = record {
  opens = opens_code opener.body;
  looked = looked_for_code_close item_in opener.body;
  within = code_visit_law.within opener.body;
  unless = unless_code opener.body;
}

abbrev pub math_search : Item → Search
math_search opener = record {
  opens = can_open opener.body;
  looked = looked_for_math_from item_in opener;
  within = math_visit_law.within opener;
  unless = unless_math opener;
}

-- what a search found ends at a byte offset: of the items after the opener those that it did not examine come later
pub record FoundUpTo (search : Search) (nodes : List (Node Item)) (xs : List ℕ) (end : ℕ) : Type 0 where
  pub item : ℕ
  pub among : StandsAmong xs item
  pub ends : (item_at nodes item).end ≤ end
  pub up_to : search.looked (map (numbered nodes) xs) + length among.after ≤ length xs

pub code_up_to : (source : List ℕ) (tables : Tables) (nodes : List (Node Item)) (ix x count : ℕ) (escaped : Bool)
    → CanResolve source tables nodes (Some ix) → (item_at nodes ix).body ≡ body.MaybeCode count escaped
    → ClosesCode nodes ix (Some x)
    → FoundUpTo (code_search (item_at nodes ix)) nodes (followers nodes ix) (item_at nodes x).end
code_up_to source tables nodes ix x count escaped ready is closes =
    let among = (closed_code ready is closes).1.among in
    let xs = followers nodes ix in
    record {
      item = x;
      among = among;
      ends = omega arith;
      up_to = subst (λ (b : ItemBody). looked_for_code_close item_in b (map (numbered nodes) xs) + length among.after ≤
          length xs) (sym is) (up_to_closer nodes count escaped xs x among (closes_by_number ready is closes));
    }

pub math_up_to : (source : List ℕ) (tables : Tables) (nodes : List (Node Item)) (ix : ℕ) (m : FoundMath)
    → CanResolve source tables nodes (Some ix) → ClosesMath nodes ix (Some m)
    → FoundUpTo (math_search (item_at nodes ix)) nodes (followers nodes ix) (item_at nodes m.last).end
math_up_to source tables nodes ix m ready closes =
    let there = stands_of ready closes in
    record {
      item = m.closer;
      among = record { before = there.before; after = there.after; parts = there.parts };
      ends = there.to_last;
      up_to = up_to_dollar nodes (item_at nodes ix) (followers nodes ix) m (math_by_number ready closes) there;
    }

module _ {source : List ℕ} {tables : Tables} {old : List (Node Item)} {ix : ℕ} (search : Search) (learned : Learned)
    (visits visits' : ℕ) (ready : CanResolve source tables old (Some ix)) where
  abbrev chain : List Numbered
  chain = map (numbered old) (followers old ix)

  -- it examines no more items than there are
  fits : search.looked chain ≤ items_from old (Some ix)
  fits =
      let o = opens_chain ready in
      let size = length-map (followers old ix) (numbered old) in
      let within = search.within chain in
      omega (arith, within, size, o.items)

  -- the count rises by exactly the items that are examined
  abbrev pub Counts : Type 0
  Counts = (low : ℕ) (after : List Numbered) → LeadsThrough old low (sibling_of old ix) after
      → RisesBy (unless_failed learned (search.looked after)) visits visits'

  looks : (after : Learned) (found : Bool) (items : ℕ) → Counts
      → has_failed after ≡ failed_by_now learned search.opens found → items ≤ items_from old (Some ix)
      → (found ≡ true → search.looked chain + items ≤ items_from old (Some ix))
      → LooksAt (has_failed learned) (has_failed after) visits visits' (items_from old (Some ix)) items
  looks after found items counted failed fewer past =
      let o = opens_chain ready in
      looks_at learned (has_failed after) search.opens found (search.looked chain) visits visits'
      (items_from old (Some ix)) items (counted (suc ix) chain o.leads) failed fits fewer (search.unless chain) past

  -- where it finds nothing
  pub nothing_looks : {X : Type 0} {found : Option X} {tables' : Tables} {new : List (Node Item)} {trees : Standing}
      {rest : Continuation} (after : Learned) → Counts
      → has_failed after ≡ failed_by_now learned search.opens (is_some found) → found ≡ None
      → Puts source ix trees None rest old new tables tables'
      → LooksAt (has_failed learned) (has_failed after) visits visits' (items_from old (Some ix))
      (items_from new rest.next)
  nothing_looks {X} {found} {tables'} {new} {trees} {rest} after counted failed none puts =
      let o = opens_chain ready in
      let size = length-map (followers old ix) (numbered old) in
      let left = items_put source ix trees None rest old new tables tables' ready puts in
      looks after false (items_from new rest.next) counted
      (failed ∙ ap (λ (f : Option X). failed_by_now learned search.opens (is_some f)) none)
      (omega (arith, left, size, o.items)) (λ found. cc found)

  -- and where it finds something
  pub something_looks : {X : Type 0} {found : Option X} {x : X} {tables' : Tables} {new : List (Node Item)}
      {trees : Standing} {end : ℕ} {rest : Continuation} (after : Learned) → FoundUpTo search old (followers old ix) end
      → Counts → has_failed after ≡ failed_by_now learned search.opens (is_some found) → found ≡ Some x
      → Puts source ix trees (Some end) rest old new tables tables'
      → LooksAt (has_failed learned) (has_failed after) visits visits' (items_from old (Some ix))
      (items_from new rest.next)
  something_looks {X} {found} {x} {tables'} {new} {trees} {end} {rest} after there counted failed some puts =
      let o = opens_chain ready in
      let among = there.among in
      let up_to = there.up_to in
      let ordered : InOrder old (item_at old ix).end (among.before ++ there.item ∷ among.after) = subst
      (InOrder old (item_at old ix).end) among.parts o.ordered in
      let left : items_from new rest.next ≡ length (numbered_past (Some end) chain) =
      items_put source ix trees (Some end) rest old new tables tables' ready puts in
      let fewer : length (numbered_past (Some end) chain) ≤ length among.after =
      subst (λ (xs : List ℕ). length (numbered_past (Some end) (map (numbered old) xs)) ≤ length among.after)
      (sym among.parts)
      (fewer_left old (item_at old ix).end end among.before there.item among.after ordered there.ends) in
      looks after true (items_from new rest.next) counted
      (failed ∙ ap (λ (f : Option X). failed_by_now learned search.opens (is_some f)) some)
      (omega (arith, up_to, left, fewer, o.items)) (λ found. omega (arith, up_to, left, fewer, o.items))

  -- memory was refused to it
  pub search_refused : ((low : ℕ) (after : List Numbered) → LeadsThrough old low (sibling_of old ix) after
      → RisesAtMost (unless_failed learned (search.looked after)) visits visits')
      → LooksAtMost (has_failed learned) (has_failed learned) visits visits' (items_from old (Some ix))
  search_refused at_most =
      let o = opens_chain ready in
      refused_at learned (search.looked chain) visits visits' (items_from old (Some ix))
      (at_most (suc ix) chain o.leads) fits

  -- it was refused to what a search has found
  pub search_stops : (after : Learned) (found : Bool) → Counts
      → has_failed after ≡ failed_by_now learned search.opens found
      → LooksAtMost (has_failed learned) (has_failed after) visits visits' (items_from old (Some ix))
  search_stops after found counted failed =
      looks after found 0 counted failed (omega arith) (λ found. let some = fits in omega (arith, some))
