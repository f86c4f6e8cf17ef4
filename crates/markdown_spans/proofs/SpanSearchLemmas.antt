-- What a search for a mark says about the closers of spans, and about the items that are examined.
use Rattle.std.proofs.Common.{◌≡◌, ℕ, suc, ◌+◌, Bool, List, [], ◌∷◌, ◌++◌, Option, Some, None, true, false, length}
use Rattle.std.proofs.Common.{refl, arith, sym, ◌∙◌, ap, append-nil}
use Rattle.std.specs.Prelude.{option_to_list, if◌then◌else◌, is_some}
use Rattle.std.specs.Option.{option_map}
use Rattle.markdown_base.specs.declared.item.Item.{Item}
use Rattle.markdown_base.specs.declared.item.ItemBody.{ItemBody}
use Rattle.markdown_base.specs.declared.item.ItemBody.TheVariants as body
use Rattle.markdown_base.specs.declared.node.Node.{Node}
use Rattle.markdown_base.specs.BlockTree.{Numbered}
use Rattle.markdown_spans.specs.ChainInArena.{LeadsThrough}
use Rattle.markdown_spans.specs.ChainWalk.{FirstIsSought, LooksAlong, NoneSought, WalksTo, one_of}
use Rattle.markdown_spans.specs.ChainSearch.{SearchesCode}
use Rattle.markdown_spans.specs.Closers.{Dollar, code_closer, first_dollar, is_code_of, is_dollar_of}
use Rattle.markdown_spans.specs.CloserSearches.{looked_for_code, looked_for_dollar}
use Rattle.markdown_spans.specs.SpanClosers.{RisesBy, item_in}
use Rattle.markdown_spans.specs.SpanMarks.{known_closers, code_mark, first_with, is_wanted, marks_in, math_mark}
use Rattle.markdown_spans.proofs.ChainWalkLemmas.{rises_on}
use Rattle.markdown_spans.specs.declared.span_marks.KnownCloser.{KnownCloser}
use Rattle.markdown_spans.specs.declared.span_marks.SpanMark.{SpanMark}
use Rattle.markdown_spans.specs.declared.span_text.SpanKind.{SpanKind}
use Rattle.markdown_spans.specs.declared.span_text.SpanKind.TheVariants.{Code, Math}
use Rattle.markdown_document.specs.Counts.{RisesAtMost}
use Rattle.markdown_document.proofs.CountLemmas.{rises_by_most}

-- a search for n backticks finds marks of n backticks
sought_code : (n number : ℕ) (b : ItemBody) → is_wanted (Some n) (code_mark number b) ≡ is_code_of n b
sought_code n number (body.MaybeCode count escaped) = refl
sought_code n number other = refl

sought_dollar : (context number : ℕ) (b : ItemBody) → is_wanted (Some context) (math_mark number b)
    ≡ is_dollar_of context b
sought_dollar context number (body.MaybeMath opens closes found) = refl
sought_dollar context number other = refl

-- past items that are not sought
code_past : (n : ℕ) (passed rest : List Numbered) → NoneSought Code (Some n) passed →
    code_closer item_in n (passed ++ rest) ≡ code_closer item_in n rest
code_past n [] rest h = refl
code_past n (a ∷ passed) rest h =
    let miss : is_code_of n a.item.body ≡ false = sym (sought_code n a.number a.item.body) ∙ h.0 in
    rw miss (code_past n passed rest h.1)

looked_past_code : (n : ℕ) (passed rest : List Numbered) → NoneSought Code (Some n) passed
    → looked_for_code item_in n (passed ++ rest) ≡ length passed + looked_for_code item_in n rest
looked_past_code n [] rest h = plus_none (looked_for_code item_in n rest)
  where
    plus_none : (k : ℕ) → k ≡ 0 + k
    plus_none k = omega arith
looked_past_code n (a ∷ passed) rest h =
    let miss : is_code_of n a.item.body ≡ false = sym (sought_code n a.number a.item.body) ∙ h.0 in
    rw miss (one_more _ (length passed) (looked_for_code item_in n rest) (looked_past_code n passed rest h.1))
  where
    one_more : (k p r : ℕ) → k ≡ p + r → 1 + k ≡ suc p + r
    one_more k p r e = omega arith

code_here : (n : ℕ) (nodes : List (Node Item)) (low : ℕ) (found : Option ℕ) (rest : List Numbered) →
    LeadsThrough nodes low found rest
    → FirstIsSought Code (Some n) rest → option_map (λ a. a.number) (code_closer item_in n rest) ≡ found
code_here n nodes low found [] leads h = sym leads
code_here n nodes low found (a ∷ after) leads h =
    let hit : is_code_of n a.item.body ≡ true = sym (sought_code n a.number a.item.body) ∙ h in
    rw hit (sym leads.0)

looked_here_code : (n : ℕ) (rest : List Numbered) → FirstIsSought Code (Some n) rest → looked_for_code item_in n rest
    ≡ one_of rest
looked_here_code n [] h = refl
looked_here_code n (a ∷ after) h =
    let hit : is_code_of n a.item.body ≡ true = sym (sought_code n a.number a.item.body) ∙ h in
    rw hit refl

-- and the same for `$`
dollar_past : (context : ℕ) (passed rest : List Numbered) → NoneSought Math (Some context) passed
    → first_dollar item_in context (passed ++ rest) ≡ first_dollar item_in context rest
dollar_past context [] rest h = refl
dollar_past context (a ∷ passed) rest h =
    let miss : is_dollar_of context a.item.body ≡ false = sym (sought_dollar context a.number a.item.body) ∙ h.0 in
    rw miss (dollar_past context passed rest h.1)

looked_past_dollar : (context : ℕ) (passed rest : List Numbered) → NoneSought Math (Some context) passed
    → looked_for_dollar item_in context (passed ++ rest) ≡ length passed + looked_for_dollar item_in context rest
looked_past_dollar context [] rest h = plus_none (looked_for_dollar item_in context rest)
  where
    plus_none : (k : ℕ) → k ≡ 0 + k
    plus_none k = omega arith
looked_past_dollar context (a ∷ passed) rest h =
    let miss : is_dollar_of context a.item.body ≡ false = sym (sought_dollar context a.number a.item.body) ∙ h.0 in
    rw miss (one_more _ (length passed) (looked_for_dollar item_in context rest)
    (looked_past_dollar context passed rest h.1))
  where
    one_more : (k p r : ℕ) → k ≡ p + r → 1 + k ≡ suc p + r
    one_more k p r e = omega arith

dollar_here : (context : ℕ) (nodes : List (Node Item)) (low : ℕ) (found : Option ℕ) (rest : List Numbered) →
    LeadsThrough nodes low found rest
    → FirstIsSought Math (Some context) rest → option_map (λ d. d.dollar.number) (first_dollar item_in context rest)
    ≡ found
dollar_here context nodes low found [] leads h = sym leads
dollar_here context nodes low found (a ∷ after) leads h =
    let hit : is_dollar_of context a.item.body ≡ true = sym (sought_dollar context a.number a.item.body) ∙ h in
    rw hit (sym leads.0)

looked_here_dollar : (context : ℕ) (rest : List Numbered) → FirstIsSought Math (Some context) rest →
    looked_for_dollar item_in context rest ≡ one_of rest
looked_here_dollar context [] h = refl
looked_here_dollar context (a ∷ after) h =
    let hit : is_dollar_of context a.item.body ≡ true = sym (sought_dollar context a.number a.item.body) ∙ h in
    rw hit refl

-- what a search finds, and the number of items that it examines
pub record WalksForCode (n : ℕ) (chain : List Numbered) (found : Option ℕ) (visits visits' : ℕ) : Type 0 where
  pub finds : option_map (λ a. a.number) (code_closer item_in n chain) ≡ found
  pub counts : RisesBy (looked_for_code item_in n chain) visits visits'

pub walk_for_code : (n : ℕ) (nodes : List (Node Item)) (chain : List Numbered) (found : Option ℕ)
    (old new : List SpanMark) (visits visits' : ℕ)
    → WalksTo Code (Some n) nodes chain found old new visits visits' → WalksForCode n chain found visits visits'
walk_for_code n nodes chain found old new visits visits' w =
    let p = w.passes in
    record {
      finds = rw (p.parts, code_past n p.passed p.rest p.none) (code_here n nodes p.low found p.rest p.leads w.stops);
      counts = rw (p.parts, looked_past_code n p.passed p.rest p.none, looked_here_code n p.rest w.stops)
          (rises_on visits (length p.passed) w.before (one_of p.rest) visits' p.counts w.counts);
    }

pub record WalksForDollar (context : ℕ) (chain : List Numbered) (found : Option ℕ) (visits visits' : ℕ) : Type 0 where
  pub finds : option_map (λ d. d.dollar.number) (first_dollar item_in context chain) ≡ found
  pub counts : RisesBy (looked_for_dollar item_in context chain) visits visits'

pub walk_for_dollar : (context : ℕ) (nodes : List (Node Item)) (chain : List Numbered) (found : Option ℕ)
    (old new : List SpanMark) (visits visits' : ℕ)
    → WalksTo Math (Some context) nodes chain found old new visits visits' →
    WalksForDollar context chain found visits visits'
walk_for_dollar context nodes chain found old new visits visits' w =
    let p = w.passes in
    record {
      finds = rw (p.parts, dollar_past context p.passed p.rest p.none)
          (dollar_here context nodes p.low found p.rest p.leads w.stops);
      counts = rw (
        p.parts,
        looked_past_dollar context p.passed p.rest p.none,
        looked_here_dollar context p.rest
            w.stops,
      )
          (rises_on visits (length p.passed) w.before (one_of p.rest) visits' p.counts w.counts);
    }

-- a search that ends because an allocation is refused examines no more items
pub breaks_for_code : (n : ℕ) (chain : List Numbered) (visits visits' : ℕ) →
    LooksAlong Code (Some n) chain visits visits'
    → RisesAtMost (looked_for_code item_in n chain) visits visits'
breaks_for_code n chain visits visits' w =
    rw (w.parts, looked_past_code n w.passed w.rest w.none)
    (rises_by_most (length w.passed) (length w.passed + looked_for_code item_in n w.rest) visits visits' w.counts
    (omega arith))

pub breaks_for_dollar : (context : ℕ) (chain : List Numbered) (visits visits' : ℕ) →
    LooksAlong Math (Some context) chain visits visits'
    → RisesAtMost (looked_for_dollar item_in context chain) visits visits'
breaks_for_dollar context chain visits visits' w =
    rw (w.parts, looked_past_dollar context w.passed w.rest w.none)
    (rises_by_most (length w.passed) (length w.passed + looked_for_dollar item_in context w.rest) visits visits'
    w.counts
    (omega arith))

-- where a walk fails, it has noted all marks of the chain
pub nothing_left : (nodes : List (Node Item)) (low : ℕ) (rest : List Numbered) → LeadsThrough nodes low None rest →
    rest ≡ []
nothing_left nodes low [] h = refl
nothing_left nodes low (a ∷ after) h = cc (h.0)

pub walk_notes : (kind : SpanKind) (wanted : Option ℕ) (nodes : List (Node Item)) (chain : List Numbered)
    (old new : List SpanMark) (visits visits' : ℕ)
    → WalksTo kind wanted nodes chain None old new visits visits' → new ≡ old ++ marks_in kind chain
walk_notes kind wanted nodes chain old new visits visits' w =
    let p = w.passes in
    p.notes ∙ ap (λ items. old ++ marks_in kind items)
    (sym (append-nil p.passed) ∙ (ap (λ rest. p.passed ++ rest) (sym (nothing_left nodes p.low p.rest p.leads))
    ∙ sym p.parts))

-- the first mark with a key is the first item of that many backticks, or the first `$` of a brace context
first_code_with : (n number : ℕ) (b : ItemBody) (later : List SpanMark)
    → first_with n (option_to_list (code_mark number b) ++ later)
    ≡ (if is_code_of n b then Some number else first_with n later)
first_code_with n number (body.MaybeCode count escaped) later = refl
first_code_with n number other later = refl

number_of_code : (n : ℕ) (a : Numbered) (after : List Numbered) (is : Bool)
    → (if is then Some a.number else option_map (λ a. a.number) (code_closer item_in n after))
    ≡ option_map (λ (a : Numbered). a.number) (if is then Some a else code_closer item_in n after)
number_of_code n a after true = refl
number_of_code n a after false = refl

pub first_is_code : (n : ℕ) (chain : List Numbered) → first_with n (marks_in Code chain)
    ≡ option_map (λ a. a.number) (code_closer item_in n chain)
first_is_code n [] = refl
first_is_code n (a ∷ after) =
    first_code_with n a.number a.item.body (marks_in Code after)
    ∙ (ap (λ later. if is_code_of n a.item.body then Some a.number else later) (first_is_code n after)
    ∙ number_of_code n a after (is_code_of n a.item.body))

first_dollar_with : (context number : ℕ) (b : ItemBody) (later : List SpanMark)
    → first_with context (option_to_list (math_mark number b) ++ later)
    ≡ (if is_dollar_of context b then Some number else first_with context later)
first_dollar_with context number (body.MaybeMath opens closes found) later = refl
first_dollar_with context number other later = refl

number_of_dollar : (context : ℕ) (a : Numbered) (after : List Numbered) (is : Bool)
    → (if is then Some a.number else option_map (λ d. d.dollar.number) (first_dollar item_in context after))
    ≡ option_map (λ (d : Dollar Numbered). d.dollar.number)
    (if is then Some (record { dollar = a; after = after }) else first_dollar item_in context after)
number_of_dollar context a after true = refl
number_of_dollar context a after false = refl

pub first_is_dollar : (context : ℕ) (chain : List Numbered)
    → first_with context (marks_in Math chain) ≡ option_map (λ d. d.dollar.number) (first_dollar item_in context chain)
first_is_dollar context [] = refl
first_is_dollar context (a ∷ after) =
    first_dollar_with context a.number a.item.body (marks_in Math after)
    ∙ (ap (λ later. if is_dollar_of context a.item.body then Some a.number else later) (first_is_dollar context after)
    ∙ number_of_dollar context a after (is_dollar_of context a.item.body))

-- what a search for backticks finds, counts and learns, where it fails and where it finds
pub search_code_fails : (n : ℕ) (nodes : List (Node Item)) (chain : List Numbered) (old new : List SpanMark)
    (found : Option ℕ) (ahead : List KnownCloser) (visits visits' : ℕ)
    → WalksTo Code (Some n) nodes chain found old new visits visits' → is_some found ≡ false → old ≡ [] → ahead
    ≡ known_closers new
    → SearchesCode n chain found (Some ahead) visits visits'
search_code_fails n nodes chain old new None ahead visits visits' w none e is =
    let found = walk_for_code n nodes chain None old new visits visits' w in
    record {
      finds = found.finds;
      learns = ap Some (is ∙ ap known_closers
          (walk_notes Code (Some n) nodes chain old new visits visits' w ∙ ap (λ old. old ++ marks_in Code chain) e));
      counts = found.counts;
    }
search_code_fails n nodes chain old new (Some ix) ahead visits visits' w none e is = cc

pub search_code_finds : (n : ℕ) (nodes : List (Node Item)) (chain : List Numbered) (old new : List SpanMark)
    (found : Option ℕ) (learned : Option (List KnownCloser)) (visits visits' : ℕ)
    → WalksTo Code (Some n) nodes chain found old new visits visits' → is_some found ≡ true → learned ≡ None
    → SearchesCode n chain found learned visits visits'
search_code_finds n nodes chain old new None learned visits visits' w some e = cc
search_code_finds n nodes chain old new (Some ix) learned visits visits' w some e =
    let found = walk_for_code n nodes chain (Some ix) old new visits visits' w in
    record { finds = found.finds; learns = e; counts = found.counts }
