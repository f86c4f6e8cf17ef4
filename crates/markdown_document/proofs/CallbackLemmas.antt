-- Calls of a callback, one run after another.
use Rattle.std.proofs.Common.{◌≡◌, List, [], ◌∷◌, ◌++◌, Option, Some, None, ap}
use Rattle.std.specs.Prelude.{is_some}
use Rattle.markdown_base.specs.Questions.{Question, Answer, Answers}
use Rattle.markdown_defs.specs.Callback.{Asks}

pub Asks-append : {C : Type 0} (step : C → Question → Option Answer → C → Type 0) (c d e : Option C)
    (qs rs : List Question) (a b : Answers)
    → Asks step c qs a d → Asks step d rs b e → Asks step c (qs ++ rs) (a ++ b) e
Asks-append step c d e [] rs [] b h k = rw h k
Asks-append step c d e [] rs (x ∷ xs) b h k = absurd h
Asks-append step c d e (q ∷ qs) rs [] b h k = absurd h
Asks-append step None d e (q ∷ qs) rs (x ∷ xs) b h k = absurd h
Asks-append step (Some c) d e (q ∷ qs) rs (x ∷ xs) b h k = (h.0, h.1, Asks-append step (Some h.0) d e qs rs xs b h.2 k)

-- they neither make a callback nor take it away
pub Asks-some : {C : Type 0} (step : C → Question → Option Answer → C → Type 0) (c d : Option C) (qs : List Question)
    (a : Answers)
    → Asks step c qs a d → is_some c ≡ is_some d
Asks-some step c d [] [] h = ap is_some h
Asks-some step c d [] (x ∷ xs) h = absurd h
Asks-some step c d (q ∷ qs) [] h = absurd h
Asks-some step None d (q ∷ qs) (x ∷ xs) h = absurd h
Asks-some step (Some c) d (q ∷ qs) (x ∷ xs) h = Asks-some step (Some h.0) d qs xs h.2
