-- The laws of look-ups, case by case.
use Rattle.std.proofs.Common.{◌≡◌, ℕ, ◌+◌, ◌-◌, ◌≤◌, ◌==◌, ◌++◌, Bool, true, false, [], ◌∷◌, Option, Some, None}
use Rattle.std.proofs.Common.{IfSome, cond, length, refl, ◌∙◌, ap, arith, lit≤}
use Rattle.std.proofs.lemmas.Bool.{cond_both}
use Rattle.markdown_base.specs.BlockParts.{DefinitionView}
use Rattle.markdown_base.specs.Questions.{Question, Answer, Answers}
use Rattle.markdown_document.specs.Setting.{DefinitionsByLabel}
use Rattle.markdown_brackets.specs.Lookup.{LookedUp, look_up, finds_nothing, defined_or_asked, asked, answered, size_of}
use Rattle.markdown_brackets.specs.LookupLaws.{AsksOnceAtMost, FindsNothingAtZero, HandsOnLaterAnswers, TakesItsBytes}

-- what holds of nothing, of each definition and of each answer holds of what a look-up finds
pub of_look_up : (limit : ℕ) (answers : Answers) (q : Question) (P : LookedUp → Type 0)
    → P (finds_nothing limit answers [])
    → ((d : DefinitionView) → P (defined_or_asked true limit answers q (Some d)))
    → ((a : Option Answer) (later : Answers) → P (answered limit later q a))
    → (defined : DefinitionsByLabel) (asks : Bool) → P (look_up defined asks limit answers q)
of_look_up limit answers q P nothing found answer defined asks =
    cond_both (limit == 0) (finds_nothing limit answers [])
    (defined_or_asked asks limit answers q (defined q.reference)) P
    (λ e. nothing) (λ e. by asks (defined q.reference))
  where
    first : (answers : Answers) → P (asked limit answers q)
    first [] = answer None []
    first (a ∷ later) = answer a later

    by : (asks : Bool) (o : Option DefinitionView) → P (defined_or_asked asks limit answers q o)
    by asks (Some d) = found d
    by false None = nothing
    by true None = first answers

pub asks_once : (defined : DefinitionsByLabel) (asks : Bool) (limit : ℕ) (answers : Answers) (q : Question)
    → AsksOnceAtMost defined asks limit answers q
asks_once defined asks limit answers q =
    of_look_up limit answers q (λ l. length l.questions ≤ 1) (lit≤ tt) (λ d. lit≤ tt) by defined asks
  where
    by : (a : Option Answer) (later : Answers) → length (answered limit later q a).questions ≤ 1
    by None later = lit≤ tt
    by (Some a) later = lit≤ tt

pub nothing_at_zero : (defined : DefinitionsByLabel) (asks : Bool) (answers : Answers) (q : Question)
    → FindsNothingAtZero defined asks answers q
nothing_at_zero defined asks answers q = refl

pub takes_bytes : (defined : DefinitionsByLabel) (asks : Bool) (limit : ℕ) (answers : Answers) (q : Question)
    → TakesItsBytes defined asks limit answers q
takes_bytes defined asks limit answers q =
    of_look_up limit answers q (λ l. IfSome l.target (λ t. limit ≤ l.limit + size_of t)) tt (λ d. omega arith) by
    defined asks
  where
    by : (a : Option Answer) (later : Answers)
        → IfSome (answered limit later q a).target (λ t. limit ≤ (answered limit later q a).limit + size_of t)
    by None later = tt
    by (Some a) later = omega arith

-- a look-up with some answers, and the same with more
pub record LooksOn (answers later : Answers) (alone more : LookedUp) : Type 0 where
  pub once : length alone.questions ≤ 1
  pub takes : length alone.answers ≡ length answers - length alone.questions
  pub hands_on : length alone.questions ≤ length answers → more ≡ record alone { answers = alone.answers ++ later }

by_answer : (limit : ℕ) (rest later : Answers) (q : Question) (a : Option Answer)
    → LooksOn (a ∷ rest) later (answered limit rest q a) (answered limit (rest ++ later) q a)
by_answer limit rest later q None = record { once = omega arith; takes = omega arith; hands_on = λ e. refl }
by_answer limit rest later q (Some a) = record { once = omega arith; takes = omega arith; hands_on = λ e. refl }

looks_on_in : (asks : Bool) (limit : ℕ) (q : Question) (o : Option DefinitionView) (answers later : Answers)
    → LooksOn answers later (defined_or_asked asks limit answers q o)
    (defined_or_asked asks limit (answers ++ later) q o)
looks_on_in asks limit q (Some d) answers later = record
    { once = omega arith; takes = omega arith; hands_on = λ e. refl }
looks_on_in false limit q None answers later = record { once = omega arith; takes = omega arith; hands_on = λ e. refl }
looks_on_in true limit q None [] later = record
    { once = omega arith; takes = omega arith; hands_on = λ e. absurd (omega (arith, e)) }
looks_on_in true limit q None (a ∷ answers) later = by_answer limit answers later q a

pub looks_on : (defined : DefinitionsByLabel) (asks : Bool) (limit : ℕ) (q : Question) (answers later : Answers)
    → LooksOn answers later (look_up defined asks limit answers q) (look_up defined asks limit (answers ++ later) q)
looks_on defined asks limit q answers later = by (limit == 0)
  where
    by : (b : Bool) → LooksOn answers later
        (cond b (finds_nothing limit answers [])
        (defined_or_asked asks limit answers q (defined q.reference)))
        (cond b (finds_nothing limit (answers ++ later) []) (defined_or_asked asks limit (answers ++ later) q
        (defined q.reference)))
    by true = record { once = omega arith; takes = omega arith; hands_on = λ e. refl }
    by false = looks_on_in asks limit q (defined q.reference) answers later

-- with one answer for each question none is left
none_left : (answers : Answers) → length answers ≡ 0 → answers ≡ []
none_left [] e = refl
none_left (a ∷ answers) e = absurd (omega (arith, e))

pub hands_on : (defined : DefinitionsByLabel) (asks : Bool) (limit : ℕ) (q : Question) (answers later : Answers)
    → HandsOnLaterAnswers defined asks limit q answers later
hands_on defined asks limit q answers later e =
    let alone : LookedUp = look_up defined asks limit answers q in
    let l = looks_on defined asks limit q answers later in
    l.hands_on (omega (arith, e))
    ∙ ap (λ (rest : Answers). record alone { answers = rest ++ later })
    (none_left alone.answers (omega (arith, e, l.takes)))
