-- What a search for the end of a math span finds, whether it walks or reads what was learned.
use Rattle.std.proofs.Common.{◌≡◌, ℕ, suc, ◌+◌, ◌<◌, ◌≤◌, Bool, List, [], ◌∷◌, ◌++◌, Option, Some, None, true, false}
use Rattle.std.proofs.Common.{not, length, refl, arith, subst, sym, ◌∙◌, ap, append_assoc, append-nil, length-append}
use Rattle.std.proofs.Common.{eq-eqb}
use Rattle.std.specs.Prelude.{if◌then◌else◌, ◌==◌, is_some, option_to_list, IfSome}
use Rattle.std.specs.Option.{option_map}
use Rattle.std.proofs.lemmas.Bool.Decides.{nat_tests}
use Rattle.markdown_base.specs.declared.item.Item.{Item}
use Rattle.markdown_base.specs.declared.node.Node.{Node}
use Rattle.markdown_base.specs.Arena.{sibling_of}
use Rattle.markdown_base.specs.BlockTree.{Numbered, item_at}
use Rattle.markdown_spans.specs.ChainInArena.{LeadsThrough, HasChain}
use Rattle.markdown_spans.specs.ChainSearch.{NotesMath, NotesRest, SearchesMath, known_dollar, next_closer, past_second}
use Rattle.markdown_spans.specs.ChainWalk.{FirstIsSought, LooksAlong, WalksTo, one_of}
use Rattle.markdown_spans.specs.Closers.{can_open, context_of, first_dollar, is_dollar, math_close, math_close_from}
use Rattle.markdown_spans.specs.CloserSearches.{looked_for_dollar, looked_for_math}
use Rattle.markdown_spans.specs.MathOpening.{closed_at, closed_by_first, dollar_at, marks_at, opener_at, searched_from}
use Rattle.markdown_spans.specs.SpanClosers.{ClosesMath, HoldsFrom, Learned, RisesBy, StandsIn, failed_by_now}
use Rattle.markdown_spans.specs.SpanClosers.{found_math, has_failed, item_in}
use Rattle.markdown_spans.specs.SpanMarks.{first_with, is_wanted, known_after, known_closer, known_closers, mark_at}
use Rattle.markdown_spans.specs.SpanMarks.{marks_in}
use Rattle.markdown_spans.proofs.ChainWalkLemmas.{begins_at, chain_at, marks_in-append, rises_on}
use Rattle.markdown_spans.proofs.FindCodeLemmas.{here_of, holds_left}
use Rattle.markdown_spans.proofs.LearnedLemmas.{KnownHere, mark_number}
use Rattle.markdown_spans.proofs.MathOpeningLemmas.{OpenerIs, Searched, closes_by, dollar_mark, first_within}
use Rattle.markdown_spans.proofs.MathOpeningLemmas.{found_or_not, looked_within, math_stands, opener_is, opener_mark}
use Rattle.markdown_spans.proofs.MathOpeningLemmas.{opener_number, searched}
use Rattle.markdown_spans.proofs.SpanSearchLemmas.{breaks_for_dollar, nothing_left, first_is_dollar, walk_for_dollar}
use Rattle.markdown_spans.specs.declared.math_opener.MathOpener.{MathOpener}
use Rattle.markdown_spans.specs.declared.span_closers.FoundMath.{FoundMath}
use Rattle.markdown_spans.specs.declared.span_marks.KnownCloser.{KnownCloser}
use Rattle.markdown_spans.specs.declared.span_marks.SpanMark.{SpanMark}
use Rattle.markdown_spans.specs.declared.span_text.SpanKind.{SpanKind}
use Rattle.markdown_spans.specs.declared.span_text.SpanKind.TheVariants.{Math}
use Rattle.markdown_document.specs.Counts.{RisesAtMost}
use Rattle.markdown_document.proofs.CountLemmas.{rises_at_more, rises_at_most_twice, rises_by_most}

-- a walk that comes to the end
pub record WalksAll (kind : SpanKind) (chain : List Numbered) (old new : List SpanMark)
    (visits visits' : ℕ) : Type 0 where
  pub notes : new ≡ old ++ marks_in kind chain
  pub counts : RisesBy (length chain) visits visits'

walks_to_end : (kind : SpanKind) (wanted : Option ℕ) (nodes : List (Node Item)) (chain : List Numbered)
    (found : Option ℕ) (old new : List SpanMark) (visits visits' : ℕ)
    → (w : WalksTo kind wanted nodes chain found old new visits visits') → w.passes.rest ≡ [] →
    WalksAll kind chain old new visits visits'
walks_to_end kind wanted nodes chain found old new visits visits' w e =
    let p = w.passes in
    let all : chain ≡ p.passed = p.parts ∙ (ap (λ rest. p.passed ++ rest) e ∙ append-nil p.passed) in
    let more : RisesBy (length p.passed + one_of p.rest) visits visits' =
    rises_on visits (length p.passed) w.before (one_of p.rest) visits' p.counts w.counts in
    let none : one_of p.rest ≡ 0 = ap one_of e in
    let size : length p.passed + one_of p.rest ≡ length chain = omega (arith, none, ap length all) in
    record { notes = p.notes ∙ ap (λ items. old ++ marks_in kind items) (sym all); counts = rw (← size) more }

pub walks_in_vain : (kind : SpanKind) (wanted : Option ℕ) (nodes : List (Node Item)) (chain : List Numbered)
    (old new : List SpanMark) (visits visits' : ℕ)
    → WalksTo kind wanted nodes chain None old new visits visits' → WalksAll kind chain old new visits visits'
walks_in_vain kind wanted nodes chain old new visits visits' w =
    walks_to_end kind wanted nodes chain None old new visits visits' w
    (nothing_left nodes w.passes.low w.passes.rest w.passes.leads)

-- a walk for nothing comes to the end
none_wanted : (mark : Option SpanMark) → is_wanted None mark ≡ false
none_wanted None = refl
none_wanted (Some mark) = refl

none_sought : (kind : SpanKind) (rest : List Numbered) → FirstIsSought kind None rest → rest ≡ []
none_sought kind [] h = refl
none_sought kind (a ∷ after) h = cc (h, none_wanted (mark_at kind a.number a.item.body))

-- so it notes all marks, after that of the node
pub walks_on : (nodes : List (Node Item)) (ix : ℕ) (after : List Numbered) (found : Option ℕ)
    (old noted new : List SpanMark) (v v' : ℕ)
    → noted ≡ old ++ option_to_list (mark_at Math ix (item_at nodes ix).body)
    → WalksTo Math None nodes after found noted new v v' → NotesRest nodes ix after old new v v'
walks_on nodes ix after found old noted new v v' e w =
    let all = walks_to_end Math None nodes after found noted new v v' w (none_sought Math w.passes.rest w.stops) in
    record {
      notes = all.notes ∙ rw (e, append_assoc) refl;
      counts = all.counts;
    }

-- and where memory was refused it has examined no more items
pub breaks_on : (after : List Numbered) (v v' : ℕ) → LooksAlong Math None after v v' → RisesAtMost (length after) v v'
breaks_on after v v' w =
    rises_by_most (length w.passed) (length after) v v' w.counts
    (omega (arith, ap length w.parts, length-append w.passed w.rest))

-- the number of items examined for what closes an opener
looked_if : (nodes : List (Node Item)) (o : MathOpener) (after : List Numbered) (s : Searched nodes o after)
    (found : Bool) → is_some (math_close item_in o.end o.context after) ≡ found
    → looked_for_math item_in o.end o.context after
    ≡ (if found then looked_for_dollar item_in o.context s.items else length s.items)
looked_if nodes o after s found e = rw e (ap
    (λ items. if found then looked_for_dollar item_in o.context items else length items) s.is)

dollars_within : (context : ℕ) (items : List Numbered) (found : Bool) → looked_for_dollar item_in context items
    ≤ (if found then looked_for_dollar item_in context items else length items)
dollars_within context items true = omega arith
dollars_within context items false = looked_within context items

found_some : (nodes : List (Node Item)) (o : MathOpener) (after : List Numbered) (s : Searched nodes o after)
    (first : Option ℕ)
    → option_map (λ d. d.dollar.number) (first_dollar item_in o.context s.items) ≡ first
    → is_some (math_close item_in o.end o.context after) ≡ is_some (closed_by_first nodes o first)
found_some nodes o after s first e = found_or_not (math_close item_in o.end o.context after)
    (closed_by_first nodes o first) (closes_by nodes o after s first e)

-- the walk comes to the end
pub notes_in_vain : (nodes : List (Node Item)) (o : MathOpener) (low : ℕ) (after : List Numbered)
    (old mid new : List SpanMark) (v v' : ℕ) → opener_at nodes o.number ≡ Some o
    → mid ≡ old ++ marks_at nodes o.second
    → ((low : ℕ) (chain : List Numbered) → LeadsThrough nodes low (searched_from nodes o) chain →
    WalksTo Math (Some o.context) nodes chain None mid new v v')
    → LeadsThrough nodes low (sibling_of nodes o.number) after → NotesMath o after None old new v v'
notes_in_vain nodes o low after old mid new v v' is e walks h =
    let s = searched nodes o low after (opener_is nodes o is) h in
    let w = walks s.low s.items s.leads in
    let all = walks_in_vain Math (Some o.context) nodes s.items mid new v v' w in
    let first = (walk_for_dollar o.context nodes s.items None mid new v v' w).finds in
    record {
      finds = closes_by nodes o after s None first;
      notes = λ _. all.notes ∙ (ap (λ marks. marks ++ marks_in Math s.items) e
          ∙ (append_assoc old (marks_at nodes o.second) (marks_in Math s.items)
          ∙ ap (λ marks. old ++ marks) (sym s.marks)));
      counts = rw (looked_if nodes o after s false (found_some nodes o after s None first)) all.counts;
    }

-- the walk comes to a `$` that closes
pub notes_nothing : (nodes : List (Node Item)) (o : MathOpener) (low : ℕ) (after : List Numbered) (ix : ℕ)
    (close : Option FoundMath) (old mid new : List SpanMark) (v v' : ℕ) → opener_at nodes o.number ≡ Some o
    → close ≡ closed_at nodes o ix → is_some close ≡ true
    → ((low : ℕ) (chain : List Numbered) → LeadsThrough nodes low (searched_from nodes o) chain →
    WalksTo Math (Some o.context) nodes chain (Some ix) mid new v v')
    → LeadsThrough nodes low (sibling_of nodes o.number) after → NotesMath o after close old new v v'
notes_nothing nodes o low after ix close old mid new v v' is e some walks h =
    let s = searched nodes o low after (opener_is nodes o is) h in
    let w = walks s.low s.items s.leads in
    let found = walk_for_dollar o.context nodes s.items (Some ix) mid new v v' w in
    record {
      finds = closes_by nodes o after s (Some ix) found.finds ∙ sym e;
      notes = λ none. let no : is_some close ≡ false = ap is_some none in cc;
      counts = rw (looked_if nodes o after s true
          (found_some nodes o after s (Some ix) found.finds ∙ (ap is_some (sym e) ∙ some))) found.counts;
    }

-- the walk comes to a `$` that does not, and goes on
pub record GoesOn (nodes : List (Node Item)) (ix : ℕ) (items : List Numbered) (old new : List SpanMark)
    (v v' : ℕ) : Type 0 where
  pub after : List Numbered
  pub low : ℕ
  pub leads : LeadsThrough nodes low (sibling_of nodes ix) after
  pub size : ℕ
  pub sizes : size + length after ≡ length items
  pub counts : RisesBy size v v'
  pub marks : new ++ (option_to_list (mark_at Math ix (item_at nodes ix).body) ++ marks_in Math after)
      ≡ old ++ marks_in Math items

stopped_at : (nodes : List (Node Item)) (ix : ℕ) (context : ℕ) (items : List Numbered) (old new : List SpanMark)
    (v v' : ℕ)
    → WalksTo Math (Some context) nodes items (Some ix) old new v v' → GoesOn nodes ix items old new v v'
stopped_at nodes ix context items old new v v' w =
    let p = w.passes in
    let b = begins_at nodes ix p.low p.rest p.leads in
    let one : one_of p.rest ≡ 1 = ap one_of b.parts in
    let rest : length p.rest ≡ suc (length b.after) = ap length b.parts in
    let whole : length items ≡ length p.passed + length p.rest = ap length p.parts ∙ length-append p.passed p.rest in
    record {
      after = b.after;
      low = suc ix;
      leads = b.leads;
      size = length p.passed + one_of p.rest;
      sizes = omega (arith, one, rest, whole);
      counts = rises_on v (length p.passed) w.before (one_of p.rest) v' p.counts w.counts;
      marks = ap (λ (marks : List SpanMark). marks ++
          (option_to_list (mark_at Math ix (item_at nodes ix).body) ++ marks_in Math b.after)) p.notes
          ∙ (append_assoc old (marks_in Math p.passed)
          (option_to_list (mark_at Math ix (item_at nodes ix).body) ++ marks_in Math b.after)
          ∙ ap (λ marks. old ++ marks) (ap (λ items. marks_in Math p.passed ++ marks_in Math items) (sym b.parts)
          ∙ (sym (marks_in-append Math p.passed p.rest) ∙ ap (marks_in Math) (sym p.parts))));
    }

pub notes_on : (nodes : List (Node Item)) (o : MathOpener) (low : ℕ) (after : List Numbered) (ix : ℕ)
    (close : Option FoundMath) (old mid at_ix new : List SpanMark) (v v1 v' : ℕ) → opener_at nodes o.number ≡ Some o
    → mid ≡ old ++ marks_at nodes o.second → close ≡ closed_at nodes o ix → is_some close ≡ false
    → ((low : ℕ) (chain : List Numbered) → LeadsThrough nodes low (searched_from nodes o) chain →
    WalksTo Math (Some o.context) nodes chain (Some ix) mid at_ix v v1)
    → ((low : ℕ) (after : List Numbered) → LeadsThrough nodes low (sibling_of nodes ix) after →
    NotesRest nodes ix after at_ix new v1 v')
    → LeadsThrough nodes low (sibling_of nodes o.number) after → NotesMath o after close old new v v'
notes_on nodes o low after ix close old mid at_ix new v v1 v' is second e none walks rests h =
    let s = searched nodes o low after (opener_is nodes o is) h in
    let w = walks s.low s.items s.leads in
    let first = (walk_for_dollar o.context nodes s.items (Some ix) mid at_ix v v1 w).finds in
    let g = stopped_at nodes ix o.context s.items mid at_ix v v1 w in
    let r = rests g.low g.after g.leads in
    let all : RisesBy (length s.items) v v' =
    rw (← g.sizes) (rises_on v g.size v1 (length g.after) v' g.counts r.counts) in
    record {
      finds = closes_by nodes o after s (Some ix) first ∙ sym e;
      notes = λ _. r.notes ∙ (g.marks ∙ (ap (λ marks. marks ++ marks_in Math s.items) second
          ∙ (append_assoc old (marks_at nodes o.second) (marks_in Math s.items)
          ∙ ap (λ marks. old ++ marks) (sym s.marks))));
      counts = rw (looked_if nodes o after s false
          (found_some nodes o after s (Some ix) first ∙ (ap is_some (sym e) ∙ none))) all;
    }

-- memory was refused
pub breaks_before : (nodes : List (Node Item)) (o : MathOpener) (low : ℕ) (after : List Numbered) (v v' : ℕ) →
    opener_at nodes o.number ≡ Some o
    → ((low : ℕ) (chain : List Numbered) → LeadsThrough nodes low (searched_from nodes o) chain →
    LooksAlong Math (Some o.context) chain v v')
    → LeadsThrough nodes low (sibling_of nodes o.number) after
    → RisesAtMost (looked_for_math item_in o.end o.context after) v v'
breaks_before nodes o low after v v' is along h =
    let s = searched nodes o low after (opener_is nodes o is) h in
    rw (looked_if nodes o after s (is_some (math_close item_in o.end o.context after)) refl)
    (rises_at_more _ _ v v' (breaks_for_dollar o.context s.items v v' (along s.low s.items s.leads))
    (dollars_within o.context s.items (is_some (math_close item_in o.end o.context after))))

pub breaks_after : (nodes : List (Node Item)) (o : MathOpener) (low : ℕ) (after : List Numbered) (ix : ℕ)
    (close : Option FoundMath) (mid at_ix : List SpanMark) (v v1 v' : ℕ) → opener_at nodes o.number ≡ Some o
    → close ≡ closed_at nodes o ix → is_some close ≡ false
    → ((low : ℕ) (chain : List Numbered) → LeadsThrough nodes low (searched_from nodes o) chain →
    WalksTo Math (Some o.context) nodes chain (Some ix) mid at_ix v v1)
    → ((low : ℕ) (after : List Numbered) → LeadsThrough nodes low (sibling_of nodes ix) after
    → RisesAtMost (length after) v1 v')
    → LeadsThrough nodes low (sibling_of nodes o.number) after
    → RisesAtMost (looked_for_math item_in o.end o.context after) v v'
breaks_after nodes o low after ix close mid at_ix v v1 v' is e none walks most h =
    let s = searched nodes o low after (opener_is nodes o is) h in
    let w = walks s.low s.items s.leads in
    let first = (walk_for_dollar o.context nodes s.items (Some ix) mid at_ix v v1 w).finds in
    let g = stopped_at nodes ix o.context s.items mid at_ix v v1 w in
    rw (
      looked_if nodes o after s false (found_some nodes o after s (Some ix) first ∙ (ap is_some (sym e) ∙ none)),
      ←
          g.sizes,
    )
    (rises_at_most_twice g.size (length g.after) v v1 v' (rises_by_most g.size g.size v v1 g.counts (omega arith))
    (most g.low g.after g.leads))

-- what a search finds, counts and learns, where it fails and where it finds
pub search_math_fails : (o : MathOpener) (after : List Numbered) (found : Option FoundMath) (old new : List SpanMark)
    (ahead : List KnownCloser) (v v' : ℕ)
    → NotesMath o after found old new v v' → is_some found ≡ false → old ≡ [] → ahead ≡ known_closers new →
    SearchesMath o after found (Some ahead) v v'
search_math_fails o after None old new ahead v v' n none e is = record {
  finds = n.finds;
  learns = ap Some (is ∙ ap known_closers (n.notes refl ∙ ap (λ old. old ++ marks_in Math after) e));
  counts = n.counts;
}
search_math_fails o after (Some found) old new ahead v v' n none e is = cc

pub search_math_finds : (o : MathOpener) (after : List Numbered) (found : Option FoundMath) (old new : List SpanMark)
    (learned : Learned) (v v' : ℕ)
    → NotesMath o after found old new v v' → is_some found ≡ true → learned ≡ None →
    SearchesMath o after found learned v v'
search_math_finds o after None old new learned v v' n some e = cc
search_math_finds o after (Some found) old new learned v v' n some e =
    record { finds = n.finds; learns = e; counts = n.counts }

-- numbers rise, and so do those of marks
first_with_above : (kind : SpanKind) (key : ℕ) (nodes : List (Node Item)) (low : ℕ) (link : Option ℕ)
    (chain : List Numbered) (x : ℕ)
    → LeadsThrough nodes low link chain → first_with key (marks_in kind chain) ≡ Some x → low ≤ x
first_with_above kind key nodes low link [] x h e = cc
first_with_above kind key nodes low link (a ∷ after) x h e =
    cases (mark_at kind a.number a.item.body) refl
    (first_with_above kind key nodes (suc a.number) (sibling_of nodes a.number) after x h.4)
  where
    here : (m : SpanMark) → m.number ≡ a.number → (is : Bool) →
        (if is then Some m.number else first_with key (marks_in kind after)) ≡ Some x
        → (first_with key (marks_in kind after) ≡ Some x → suc a.number ≤ x) → low ≤ x
    here m n true f later = let same : m.number ≡ x = cc in omega (arith, h.1)
    here m n false f later = let more : suc a.number ≤ x = later f in omega (arith, h.1)

    cases : (o : Option SpanMark) → mark_at kind a.number a.item.body ≡ o →
        (first_with key (marks_in kind after) ≡ Some x → suc a.number ≤ x) → low ≤ x
    cases None is later = let more : suc a.number ≤ x = later (rw is at e) in omega (arith, h.1)
    cases (Some m) is later = here m (mark_number kind a.number a.item.body m is) (m.key == key) (rw is at e) later

-- the first `$` that an opener wants, past its second one
second_is : (nodes : List (Node Item)) (link : Option ℕ) (second : ℕ) → Some second ≡ dollar_at nodes link →
    is_dollar (item_at nodes second).body ≡ true
second_is nodes None second e = cc
second_is nodes (Some ix) second e = cases (is_dollar (item_at nodes ix).body) refl
  where
    cases : (is : Bool) → is_dollar (item_at nodes ix).body ≡ is → is_dollar (item_at nodes second).body ≡ true
    cases true is = let same : second ≡ ix = let one = rw is at e in cc in rw same is
    cases false is = let one = rw is at e in cc

past_other : (second : ℕ) (found after_second : Option ℕ) → ((x : ℕ) → found ≡ Some x → second < x) →
    past_second (Some second) found after_second ≡ found
past_other second None after_second above = refl
past_other second (Some x) after_second above =
    let other : (x == second) ≡ false = apart x second (above x refl) in
    rw other refl
  where
    apart : (x second : ℕ) → second < x → (x == second) ≡ false
    apart x second l = grind (arith, nat_tests)

past_this : (second : ℕ) (after_second : Option ℕ) → past_second (Some second) (Some second) after_second ≡ after_second
past_this second after_second =
    let same : (second == second) ≡ true = eq-eqb second second refl in
    rw same refl

known_past : (second context wanted : ℕ) (later : List SpanMark) (is : Bool) → (context == wanted) ≡ is →
    ((x : ℕ) → first_with wanted later ≡ Some x → second < x)
    → past_second (Some second) (if context == wanted then Some second else first_with wanted later)
    (first_with context later) ≡ first_with wanted later
known_past second context wanted later true e above =
    let same : context ≡ wanted = of_test context wanted e in
    rw e (past_this second (first_with context later) ∙ ap (λ key. first_with key later) same)
  where
    of_test : (a b : ℕ) → (a == b) ≡ true → a ≡ b
    of_test a b t = grind (arith, nat_tests)
known_past second context wanted later false e above =
    rw e (past_other second (first_with wanted later) (first_with context later) above)

known_dollar_of : (nodes : List (Node Item)) (o : MathOpener) (after : List Numbered) (known : List KnownCloser)
    (m : SpanMark) (s : Searched nodes o after) (second : Option ℕ)
    → o.second ≡ second → OpenerIs nodes o → m.wanted ≡ o.context → KnownHere Math o.number m after known →
    known_dollar o known ≡ first_with o.context (marks_in Math s.items)
known_dollar_of nodes o after known m s None e is wanted k =
    let first : known_closer o.number known ≡ first_with o.context (marks_in Math s.items) =
    k.closer ∙ (ap (λ key. first_with key (marks_in Math after)) wanted
    ∙ ap (first_with o.context) (s.marks ∙ ap (λ second. marks_at nodes second ++ marks_in Math s.items) e)) in
    ap (λ second. past_second second (known_closer o.number known) (next_closer (known_after o.number known))) e ∙ first
known_dollar_of nodes o after known m s (Some second) e is wanted k =
    let dollar : is_dollar (item_at nodes second).body ≡ true =
    second_is nodes (sibling_of nodes o.number) second (sym e ∙ is.second) in
    let marks : marks_in Math after ≡ record {
      number = second;
      key = context_of (item_at nodes second).body;
      wanted =
          context_of (item_at nodes second).body;
    } ∷ marks_in Math s.items =
    s.marks ∙ (ap (λ second. marks_at nodes second ++ marks_in Math s.items) e
    ∙ ap (λ (o : Option SpanMark). option_to_list o ++ marks_in Math s.items)
    (dollar_mark second (item_at nodes second).body dollar)) in
    let first : known_closer o.number known
    ≡ (if context_of (item_at nodes second).body == o.context then Some second else first_with o.context
    (marks_in Math s.items)) =
    k.closer ∙ (ap (λ key. first_with key (marks_in Math after)) wanted ∙ ap (first_with o.context) marks) in
    let next : next_closer (known_after o.number known)
    ≡ first_with (context_of (item_at nodes second).body) (marks_in Math s.items) =
    ap next_closer (k.later ∙ ap known_closers marks) in
    let P : Option ℕ → Type 0 = λ second. IfSome second (λ second. second < s.low) in
    let above : second < s.low = subst P e s.above in
    let rises : (x : ℕ) → first_with o.context (marks_in Math s.items) ≡ Some x → second < x =
    λ x f. let le : s.low ≤ x = first_with_above Math o.context nodes s.low
    (searched_from nodes o) s.items x s.leads f in omega arith in
    ap (λ second. past_second second (known_closer o.number known) (next_closer (known_after o.number known))) e
    ∙ (ap (λ first. past_second (Some second) first (next_closer (known_after o.number known))) first
    ∙ (ap (past_second (Some second) (if context_of
    (item_at nodes second).body == o.context then Some second else first_with o.context (marks_in Math s.items))) next
    ∙ known_past second (context_of (item_at nodes second).body) o.context (marks_in Math s.items)
    (context_of (item_at nodes second).body == o.context) refl rises))

-- an item that opens math, and one that does not
math_from : (nodes : List (Node Item)) (o : MathOpener) (after : List Numbered) → OpenerIs nodes o
    → math_close_from item_in (item_at nodes o.number) after ≡ math_close item_in o.end o.context after
math_from nodes o after is =
    rw is.opens (ap (λ n. math_close item_in n (context_of (item_at nodes o.number).body) after) (sym is.end)
    ∙ ap (λ n. math_close item_in o.end n after) (sym is.context))

-- an opener as a mark of its node
mark_of_opener : (nodes : List (Node Item)) (o : MathOpener) → OpenerIs nodes o
    → mark_at Math o.number (item_at nodes o.number).body
    ≡ Some (record { number = o.number; key = o.context; wanted = o.context })
mark_of_opener nodes o is =
    opener_mark o.number (item_at nodes o.number).body is.opens
    ∙ ap (λ (context : ℕ). let m : SpanMark = record { number = o.number; key = context; wanted = context } in
    Some m) (sym is.context)

-- what was learned is read
pub finds_known_math : (nodes : List (Node Item)) (o : MathOpener) (learned : Learned) (known : List KnownCloser)
    (first : Option ℕ) → opener_at nodes o.number ≡ Some o
    → HasChain nodes (Some o.number) → HoldsFrom Math learned nodes (Some o.number) → learned ≡ Some known → first
    ≡ known_dollar o known
    → ClosesMath nodes o.number (closed_by_first nodes o first)
finds_known_math nodes o learned known first is h holds e value low after leads =
    let opener = opener_is nodes o is in
    let s = searched nodes o low after opener leads in
    let here = here_of Math nodes o.number low after _ learned known h holds e (mark_of_opener nodes o opener) leads in
    let found : option_map (λ d. d.dollar.number) (first_dollar item_in o.context s.items) ≡ first =
    sym (first_is_dollar o.context s.items)
    ∙ (sym (known_dollar_of nodes o after known _ s o.second refl opener refl here) ∙ sym value) in
    ap (option_map found_math) (math_from nodes o after opener) ∙ closes_by nodes o after s first found

pub holds_left_math : (nodes : List (Node Item)) (o : MathOpener) (learned : Learned) (known left : List KnownCloser)
    → opener_at nodes o.number ≡ Some o
    → HasChain nodes (Some o.number) → HoldsFrom Math learned nodes (Some o.number) → learned ≡ Some known → left
    ≡ known_after o.number known
    → HoldsFrom Math (Some left) nodes (sibling_of nodes o.number)
holds_left_math nodes o learned known left is h holds e later =
    holds_left Math nodes o.number _ learned known left h holds e (mark_of_opener nodes o (opener_is nodes o is)) later

-- a walk is made
math_fails : (o : MathOpener) (after : List Numbered) (found : Option FoundMath) (learned' : Learned) (v v' : ℕ) →
    SearchesMath o after found learned' v v' → has_failed learned' ≡ not (is_some found)
math_fails o after None learned' v v' s = ap has_failed s.learns
math_fails o after (Some found) learned' v v' s = ap has_failed s.learns

pub fails_walking_math : (nodes : List (Node Item)) (o : MathOpener) (found : Option FoundMath)
    (learned learned' : Learned) (v v' : ℕ) → opener_at nodes o.number ≡ Some o →
    HasChain nodes (sibling_of nodes o.number) → learned ≡ None
    → ((low : ℕ) (after : List Numbered) → LeadsThrough nodes low (sibling_of nodes o.number) after →
    SearchesMath o after found learned' v v')
    → has_failed learned' ≡ failed_by_now learned (can_open (item_at nodes o.number).body) (is_some found)
fails_walking_math nodes o found learned learned' v v' is chain e s =
    rw (e, (opener_is nodes o is).opens) (math_fails o chain.chain found learned' v v'
    (s chain.low chain.chain chain.leads))

pub known_within : (nodes : List (Node Item)) (o : MathOpener) (learned : Learned) (known : List KnownCloser)
    (first : Option ℕ) → opener_at nodes o.number ≡ Some o
    → HasChain nodes (Some o.number) → HoldsFrom Math learned nodes (Some o.number) → learned ≡ Some known → first
    ≡ known_dollar o known
    → IfSome first (λ ix. ix < length nodes)
known_within nodes o learned known first is h holds e value =
    let opener = opener_is nodes o is in
    let later = (chain_at nodes o.number h).later in
    let s = searched nodes o later.low later.chain opener later.leads in
    let here = here_of Math nodes o.number later.low later.chain _ learned known h holds e
    (mark_of_opener nodes o opener) later.leads in
    first_within nodes o.context s.low (searched_from nodes o) s.items first s.leads
    (sym (first_is_dollar o.context s.items)
    ∙ (sym (known_dollar_of nodes o later.chain known _ s o.second refl opener refl here) ∙ sym value))

-- an opener of a node, at its own number
pub opener_here : (nodes : List (Node Item)) (ix : ℕ) (o : MathOpener) → opener_at nodes ix ≡ Some o →
    opener_at nodes o.number ≡ Some o
opener_here nodes ix o is =
    let P : ℕ → Type 0 = λ n. opener_at nodes n ≡ Some o in
    subst P (sym (opener_number nodes ix o is)) is

-- what was learned says what closes it
pub record KnownMath (nodes : List (Node Item)) (ix : ℕ) (o : MathOpener) (first : Option ℕ)
    (left : List KnownCloser) : Type 0 where
  pub within : IfSome first (λ ix. ix < length nodes)
  pub found : ClosesMath nodes ix (closed_by_first nodes o first)
  pub later : HoldsFrom Math (Some left) nodes (sibling_of nodes ix)

pub known_math : (nodes : List (Node Item)) (ix : ℕ) (o : MathOpener) (learned : Learned)
    (known left : List KnownCloser) (first : Option ℕ) → opener_at nodes ix ≡ Some o
    → HasChain nodes (Some ix) → HoldsFrom Math learned nodes (Some ix) → learned ≡ Some known → first
    ≡ known_dollar o known → left ≡ known_after o.number known
    → KnownMath nodes ix o first left
known_math nodes ix o learned known left first at_ix h holds e value later =
    let is = opener_here nodes ix o at_ix in
    let P : ℕ → Type 0 = λ n. HasChain nodes (Some n) → HoldsFrom Math learned nodes (Some n) →
    KnownMath nodes n o first left in
    subst P (opener_number nodes ix o at_ix) (λ h holds. record {
      within = known_within nodes o learned known first is h holds e value;
      found = finds_known_math nodes o learned known first is h holds e value;
      later = holds_left_math nodes o learned known left is h holds e later;
    }) h holds

pub failed_at : (nodes : List (Node Item)) (ix : ℕ) (o : MathOpener) (found : Option FoundMath)
    (learned learned' : Learned) (v v' : ℕ) → opener_at nodes ix ≡ Some o → HasChain nodes (Some ix) → learned ≡ None
    → ((low : ℕ) (after : List Numbered) → LeadsThrough nodes low (sibling_of nodes o.number) after →
    SearchesMath o after found learned' v v')
    → has_failed learned' ≡ failed_by_now learned (can_open (item_at nodes ix).body) (is_some found)
failed_at nodes ix o found learned learned' v v' at_ix h e s =
    let is = opener_here nodes ix o at_ix in
    let P : ℕ → Type 0 = λ n. HasChain nodes (Some n) → has_failed learned'
    ≡ failed_by_now learned (can_open (item_at nodes n).body) (is_some found) in
    subst P (opener_number nodes ix o at_ix)
    (λ h. fails_walking_math nodes o found learned learned' v v' is (chain_at nodes o.number h).later e s) h

-- what closes math consists of nodes of the arena
pub math_within : (nodes : List (Node Item)) (ix : ℕ) (found : Option FoundMath) → HasChain nodes (Some ix) →
    ClosesMath nodes ix found → IfSome found (StandsIn nodes)
math_within nodes ix found h closes = cases (opener_at nodes ix) refl
  where
    later : HasChain nodes (sibling_of nodes ix)
    later = (chain_at nodes ix h).later

    stands : (close : Option FoundMath) →
        option_map found_math (math_close_from item_in (item_at nodes ix) later.chain) ≡ close →
        IfSome close (StandsIn nodes) → IfSome found (StandsIn nodes)
    stands close e s =
        let P : Option FoundMath → Type 0 = λ found. IfSome found (StandsIn nodes) in
        subst P (sym e ∙ closes later.low later.chain later.leads) s

    none : (opens : Bool) → can_open (item_at nodes ix).body ≡ opens → opener_at nodes ix ≡ None →
        IfSome found (StandsIn nodes)
    none true e is = let made = rw e at is in cc
    none false e is = stands None (rw e refl) tt

    cases : (o : Option MathOpener) → opener_at nodes ix ≡ o → IfSome found (StandsIn nodes)
    cases None is = none (can_open (item_at nodes ix).body) refl is
    cases (Some o) is =
        let opener = opener_is nodes o (opener_here nodes ix o is) in
        let P : ℕ → Type 0 = λ n. LeadsThrough nodes later.low (sibling_of nodes n) later.chain
        → (option_map found_math (math_close_from item_in (item_at nodes n) later.chain)
        ≡ option_map found_math (math_close item_in o.end o.context later.chain))
        × IfSome (option_map found_math (math_close item_in o.end o.context later.chain)) (StandsIn nodes) in
        let both = subst P (opener_number nodes ix o is)
        (λ leads. (
          ap (option_map found_math)
              (math_from nodes o later.chain opener),
          math_stands nodes o later.low later.chain opener leads,
        ))
        later.leads in
        stands (option_map found_math (math_close item_in o.end o.context later.chain)) both.0 both.1

pub walked_within : (nodes : List (Node Item)) (ix : ℕ) (o : MathOpener) (found : Option FoundMath)
    (learned' : Learned) (v v' : ℕ) → opener_at nodes ix ≡ Some o
    → HasChain nodes (Some ix)
    → ((low : ℕ) (after : List Numbered) → LeadsThrough nodes low (sibling_of nodes o.number) after →
    SearchesMath o after found learned' v v')
    → IfSome found (StandsIn nodes)
walked_within nodes ix o found learned' v v' at_ix h s =
    let opener = opener_is nodes o (opener_here nodes ix o at_ix) in
    let P : ℕ → Type 0 = λ n. ClosesMath nodes n found in
    math_within nodes ix found h (subst P (opener_number nodes ix o at_ix)
    (λ low after leads. ap (option_map found_math) (math_from nodes o after opener) ∙ (s low after leads).finds))
