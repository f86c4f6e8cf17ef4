-- Laws of a callback's calls.
use Rattle.std.proofs.Common.{◌≡◌, List, [], ◌∷◌, Option, None, refl, sym}
use Rattle.markdown_base.specs.Questions.{Question, Answer, Answers}
use Rattle.markdown_defs.specs.Callback.{Asks}

-- where there is no callback, nothing is answered, and there is none after it
pub unasked : {F : Type 0} (step : F → Question → Option Answer → F → Type 0) (after : Option F)
    (questions : List Question) (answers : Answers)
    → Asks step None questions answers after → (answers ≡ []) × (after ≡ None)
unasked step after [] [] asked = (refl, sym asked)
unasked step after [] (a ∷ answers) asked = absurd asked
unasked step after (q ∷ questions) [] asked = absurd asked
unasked step after (q ∷ questions) (a ∷ answers) asked = absurd asked
