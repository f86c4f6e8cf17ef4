-- Sequences of a callback's calls, with their questions and answers.
use Rattle.std.specs.Prelude.{◌≡◌, List, [], ◌∷◌, Option, Some, None}
use Rattle.markdown_base.specs.Questions.{Question, Answer, Answers}

-- calls with these questions and answers, in this order, lead from one state of a callback, if there is one, to another
abbrev pub Asks : {C : Type 0} → (C → Question → Option Answer → C → Type 0) → Option C
    → List Question → Answers → Option C → Type 0
Asks step old [] [] new = old ≡ new
Asks step old [] (a ∷ answers) new = ⊥
Asks step old (q ∷ questions) [] new = ⊥
Asks step None (q ∷ questions) (a ∷ answers) new = ⊥
Asks {C} step (Some old) (q ∷ questions) (a ∷ answers) new =
    (then : C) × step old q a then × Asks step (Some then) questions answers new
