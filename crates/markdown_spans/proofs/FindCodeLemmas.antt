-- What a search for the end of a code span finds, whether it walks or reads what was learned.
use Rattle.std.proofs.Common.{◌≡◌, ℕ, suc, ◌<◌, Bool, List, [], ◌∷◌, Option, Some, None, true, false, not, length, refl}
use Rattle.std.proofs.Common.{arith, subst, sym, ◌∙◌, ap}
use Rattle.std.specs.Prelude.{if◌then◌else◌, ◌==◌, is_some, IfSome}
use Rattle.std.specs.Option.{option_map}
use Rattle.std.proofs.lemmas.Bool.Decides.{nat_tests}
use Rattle.markdown_base.specs.declared.item.Item.{Item}
use Rattle.markdown_base.specs.declared.item.ItemBody.{ItemBody}
use Rattle.markdown_base.specs.declared.item.ItemBody.TheVariants as body
use Rattle.markdown_base.specs.declared.node.Node.{Node}
use Rattle.markdown_base.specs.Arena.{sibling_of}
use Rattle.markdown_base.specs.BlockTree.{Numbered, item_at, numbered}
use Rattle.markdown_spans.specs.ChainInArena.{LeadsThrough, HasChain}
use Rattle.markdown_document.specs.Counts.{RisesAtMost}
use Rattle.markdown_spans.specs.ChainSearch.{SearchesCode, learned_by}
use Rattle.markdown_spans.specs.Closers.{closing_count, code_close, code_closer, is_code_of}
use Rattle.markdown_spans.specs.CloserSearches.{looked_for_code, looked_for_code_close, opens_code}
use Rattle.markdown_spans.specs.SpanClosers.{ClosesCode, HoldsFrom, HoldsOf, Learned, LooksForCode, RisesBy}
use Rattle.markdown_spans.specs.SpanClosers.{LooksForCodeAtMost, failed_by_now, has_failed, item_in, unless_failed}
use Rattle.markdown_spans.specs.SpanMarks.{known_after, known_closer, known_closers, mark_at, marks_in}
use Rattle.markdown_spans.proofs.LearnedLemmas.{KnownHere, from_opener, knows_all, known_here}
use Rattle.markdown_spans.proofs.SpanSearchLemmas.{first_is_code}
use Rattle.markdown_spans.specs.declared.span_marks.KnownCloser.{KnownCloser}
use Rattle.markdown_spans.specs.declared.span_marks.SpanMark.{SpanMark}
use Rattle.markdown_spans.specs.declared.span_text.SpanKind.{SpanKind}
use Rattle.markdown_spans.specs.declared.span_text.SpanKind.TheVariants.{Code}

-- backticks open a span where some backticks close it
pub record OpensCode (b : ItemBody) (m : SpanMark) : Type 0 where
  pub close : (after : List Numbered) → code_close item_in b after
      ≡ (if m.wanted == 0 then None else code_closer item_in m.wanted after)
  pub looked : (after : List Numbered) → looked_for_code_close item_in b after
      ≡ (if m.wanted == 0 then 0 else looked_for_code item_in m.wanted after)
  pub opens : opens_code b ≡ not (m.wanted == 0)

pub opens_mark : (ix : ℕ) (b : ItemBody) (m : SpanMark) → mark_at Code ix b ≡ Some m → OpensCode b m
opens_mark ix (body.MaybeCode count escaped) m h =
    let e : closing_count count escaped ≡ m.wanted = cc in
    record {
      close = λ after. ap (λ (n : ℕ). if n == 0 then None else code_closer item_in n after) e;
      looked = λ after. ap (λ (n : ℕ). if n == 0 then 0 else looked_for_code item_in n after) e;
      opens = ap (λ (n : ℕ). not (n == 0)) e;
    }
opens_mark ix other m h = cc

looked_without_mark : (ix : ℕ) (b : ItemBody) → mark_at Code ix b ≡ None → (after : List Numbered) →
    looked_for_code_close item_in b after ≡ 0
looked_without_mark ix (body.MaybeCode count escaped) h after = cc
looked_without_mark ix other h after = refl

-- if nothing is examined, no count rises
none_unless_failed : (learned : Learned) (n : ℕ) → n ≡ 0 → unless_failed learned n ≡ 0
none_unless_failed None n e = e
none_unless_failed (Some known) n e = refl

pub looks_at_none : (learned : Learned) (n v : ℕ) → n ≡ 0 → RisesBy (unless_failed learned n) v v
looks_at_none learned n v e = rw (none_unless_failed learned n e) refl

pub looks_without_mark : (nodes : List (Node Item)) (ix : ℕ) (learned : Learned) (v : ℕ) →
    mark_at Code ix (item_at nodes ix).body ≡ None
    → LooksForCode learned nodes ix v v
looks_without_mark nodes ix learned v e low after leads =
    looks_at_none learned _ v (looked_without_mark ix (item_at nodes ix).body e after)

pub looks_at_escaped : (nodes : List (Node Item)) (ix : ℕ) (m : SpanMark) (learned : Learned) (v : ℕ) →
    mark_at Code ix (item_at nodes ix).body ≡ Some m → m.wanted ≡ 0
    → LooksForCode learned nodes ix v v
looks_at_escaped nodes ix m learned v is e low after leads =
    looks_at_none learned _ v ((opens_mark ix (item_at nodes ix).body m is).looked after
    ∙ ap (λ (n : ℕ). if n == 0 then 0 else looked_for_code item_in n after) e)

is_some_count : (n : ℕ) → (n ≡ 0 → ⊥) → (n == 0) ≡ false
is_some_count n h = grind (arith, nat_tests)

-- what the fields of a search say was learned
pub learned_from : (failed : Bool) (known : List KnownCloser) (learned : Learned) →
    (if failed then Some known else None) ≡ learned → failed ≡ true → learned ≡ Some known
learned_from true known learned e h = sym e
learned_from false known learned e h = cc

pub nothing_from : (failed : Bool) (known : List KnownCloser) (learned : Learned) →
    (if failed then Some known else None) ≡ learned → failed ≡ false → learned ≡ None
nothing_from true known learned e h = cc
nothing_from false known learned e h = sym e

-- what was learned is read
pub here_of : (kind : SpanKind) (nodes : List (Node Item)) (ix low : ℕ) (after : List Numbered) (m : SpanMark)
    (learned : Learned) (known : List KnownCloser)
    → HasChain nodes (Some ix) → HoldsFrom kind learned nodes (Some ix) → learned ≡ Some known →
    mark_at kind ix (item_at nodes ix).body ≡ Some m
    → LeadsThrough nodes low (sibling_of nodes ix) after → KnownHere kind ix m after known
here_of kind nodes ix low after m learned known h holds e is leads =
    let P : Learned → Type 0 = λ l. HoldsOf kind l (numbered nodes ix ∷ after) in
    known_here kind (numbered nodes ix) after m known
    (subst P e (holds ix (numbered nodes ix ∷ after) (from_opener nodes ix low after h leads))) is

pub finds_known : (nodes : List (Node Item)) (ix : ℕ) (m : SpanMark) (learned : Learned) (known : List KnownCloser)
    (found : Option ℕ)
    → HasChain nodes (Some ix) → HoldsFrom Code learned nodes (Some ix) → learned ≡ Some known →
    mark_at Code ix (item_at nodes ix).body ≡ Some m
    → (m.wanted ≡ 0 → ⊥) → found ≡ known_closer ix known → ClosesCode nodes ix found
finds_known nodes ix m learned known found h holds e is some value low after leads =
    let here = here_of Code nodes ix low after m learned known h holds e is leads in
    let wanted : (m.wanted == 0) ≡ false = is_some_count m.wanted some in
    ap (option_map (λ (a : Numbered). a.number)) ((opens_mark ix (item_at nodes ix).body m is).close after
    ∙ ap (λ (none : Bool). if none then None else code_closer item_in m.wanted after) wanted)
    ∙ (sym (first_is_code m.wanted after) ∙ (sym here.closer ∙ sym value))

pub looks_at_known : (nodes : List (Node Item)) (ix : ℕ) (learned : Learned) (known : List KnownCloser) (v : ℕ) →
    learned ≡ Some known → LooksForCode learned nodes ix v v
looks_at_known nodes ix learned known v e low after leads = rw e refl

-- what is left holds of the items after it
pub holds_left : (kind : SpanKind) (nodes : List (Node Item)) (ix : ℕ) (m : SpanMark) (learned : Learned)
    (known left : List KnownCloser)
    → HasChain nodes (Some ix) → HoldsFrom kind learned nodes (Some ix) → learned ≡ Some known →
    mark_at kind ix (item_at nodes ix).body ≡ Some m
    → left ≡ known_after ix known → HoldsFrom kind (Some left) nodes (sibling_of nodes ix)
holds_left kind nodes ix m learned known left h holds e is later low after leads =
    let here = here_of kind nodes ix low after m learned known h holds e is leads in
    knows_all kind after left (later ∙ here.later)

-- a walk is made
fails_with : (kind : SpanKind) (after : List Numbered) (found : Option ℕ) (learned' : Learned) (n v v' : ℕ) →
    SearchesCode n after found learned' v v' → has_failed learned' ≡ not (is_some found)
fails_with kind after None learned' n v v' s = ap has_failed s.learns
fails_with kind after (Some ix) learned' n v v' s = ap has_failed s.learns

fails_walking : (nodes : List (Node Item)) (ix : ℕ) (m : SpanMark) (found : Option ℕ)
    (learned learned' : Learned) (v v' : ℕ) → HasChain nodes (sibling_of nodes ix) →
    mark_at Code ix (item_at nodes ix).body ≡ Some m → (m.wanted ≡ 0 → ⊥) → learned ≡ None
    → ((low : ℕ) (after : List Numbered) → LeadsThrough nodes low (sibling_of nodes ix) after →
    SearchesCode m.wanted after found learned' v v')
    → has_failed learned' ≡ failed_by_now learned (opens_code (item_at nodes ix).body) (is_some found)
fails_walking nodes ix m found learned learned' v v' chain is some e s =
    let wanted : (m.wanted == 0) ≡ false = is_some_count m.wanted some in
    let opens : opens_code (item_at nodes ix).body ≡ true = (opens_mark ix (item_at nodes ix).body m is).opens
    ∙ ap not wanted in
    rw (e, opens) (fails_with Code chain.chain found learned' m.wanted v v' (s chain.low chain.chain chain.leads))

-- a search that fails has learned the closer of each mark
holds_searched : (after : List Numbered) (found : Option ℕ) (learned' : Learned)
    → learned' ≡ learned_by found Code after → HoldsOf Code learned' after
holds_searched after None learned' e = rw e (knows_all Code after (known_closers (marks_in Code after)) refl)
holds_searched after (Some ix) learned' e = rw e tt

-- what a walk for the end of a code span finds, counts and learns
pub record Walked (nodes : List (Node Item)) (ix : ℕ) (learned : Learned) (found : Option ℕ) (learned' : Learned)
    (v v' : ℕ) : Type 0 where
  pub closes : ClosesCode nodes ix found
  pub counted : LooksForCode learned nodes ix v v'
  pub failed : has_failed learned' ≡ failed_by_now learned (opens_code (item_at nodes ix).body) (is_some found)
  pub holds : HoldsFrom Code learned' nodes (sibling_of nodes ix)

pub walked : (nodes : List (Node Item)) (ix : ℕ) (m : SpanMark) (learned : Learned)
    → HasChain nodes (sibling_of nodes ix) → mark_at Code ix (item_at nodes ix).body ≡ Some m → (m.wanted ≡ 0 → ⊥)
    → learned ≡ None → (found : Option ℕ) (learned' : Learned) (v v' : ℕ)
    → ((low : ℕ) (after : List Numbered) → LeadsThrough nodes low (sibling_of nodes ix) after
    → SearchesCode m.wanted after found learned' v v') → Walked nodes ix learned found learned' v v'
walked nodes ix m learned chain is some e found learned' v v' s =
    let wanted : (m.wanted == 0) ≡ false = is_some_count m.wanted some in
    let opens = opens_mark ix (item_at nodes ix).body m is in
    record {
      closes = λ low after leads. rw (opens.close after, wanted) (s low after leads).finds;
      counted = λ low after leads. rw (e, opens.looked after, wanted) (s low after leads).counts;
      failed = fails_walking nodes ix m found learned learned' v v' chain is some e s;
      holds = λ low after leads. holds_searched after found learned' (s low after leads).learns;
    }

-- where memory was refused to the walk it has examined no more items
pub walked_at_most : (nodes : List (Node Item)) (ix : ℕ) (m : SpanMark) (learned : Learned) (v v' : ℕ)
    → mark_at Code ix (item_at nodes ix).body ≡ Some m → (m.wanted ≡ 0 → ⊥) → learned ≡ None
    → ((low : ℕ) (after : List Numbered) → LeadsThrough nodes low (sibling_of nodes ix) after
    → RisesAtMost (looked_for_code item_in m.wanted after) v v') → LooksForCodeAtMost learned nodes ix v v'
walked_at_most nodes ix m learned v v' is some e s low after leads =
    let wanted : (m.wanted == 0) ≡ false = is_some_count m.wanted some in
    rw (e, (opens_mark ix (item_at nodes ix).body m is).looked after, wanted) (s low after leads)

-- what closes a span is a node of the arena
closer_within : (nodes : List (Node Item)) (n low : ℕ) (link : Option ℕ) (after : List Numbered) →
    LeadsThrough nodes low link after
    → IfSome (option_map (λ a. a.number) (code_closer item_in n after)) (λ ix. ix < length nodes)
closer_within nodes n low link [] h = tt
closer_within nodes n low link (a ∷ after) h =
    cases (is_code_of n a.item.body) (closer_within nodes n (suc a.number) (sibling_of nodes a.number) after h.4)
  where
    cases : (is : Bool) → IfSome (option_map (λ (a : Numbered). a.number) (code_closer item_in n after))
        (λ ix. ix < length nodes)
        → IfSome (option_map (λ (a : Numbered). a.number) (if is then Some a else code_closer item_in n after))
        (λ ix. ix < length nodes)
    cases true later = h.2
    cases false later = later

close_within : (nodes : List (Node Item)) (b : ItemBody) (low : ℕ) (link : Option ℕ) (after : List Numbered) →
    LeadsThrough nodes low link after
    → IfSome (option_map (λ a. a.number) (code_close item_in b after)) (λ ix. ix < length nodes)
close_within nodes (body.MaybeCode count escaped) low link after h =
    cases (closing_count count escaped == 0) (closer_within nodes (closing_count count escaped) low link after h)
  where
    cases : (none : Bool) → IfSome (option_map (λ (a : Numbered). a.number)
        (code_closer item_in (closing_count count escaped) after)) (λ ix. ix < length nodes)
        → IfSome (option_map (λ (a : Numbered). a.number)
        (if none then None else code_closer item_in (closing_count count escaped) after)) (λ ix. ix < length nodes)
    cases true found = tt
    cases false found = found
close_within nodes other low link after h = tt

pub code_within : (nodes : List (Node Item)) (ix : ℕ) (found : Option ℕ) → HasChain nodes (sibling_of nodes ix) →
    ClosesCode nodes ix found
    → IfSome found (λ ix. ix < length nodes)
code_within nodes ix found chain closes =
    let P : Option ℕ → Type 0 = λ found. IfSome found (λ ix. ix < length nodes) in
    subst P (closes chain.low chain.chain chain.leads)
    (close_within nodes (item_at nodes ix).body chain.low (sibling_of nodes ix) chain.chain chain.leads)
