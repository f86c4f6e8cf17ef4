-- Answers are used in the order of the questions. A caller may read a text with the answers that it has, ask its user
-- the first question that has none, and read the text again with one answer more: all up to that question stays as it
-- is.
use Rattle.std.specs.Prelude.{◌≡◌, ◌++◌, ◌∷◌, [], ℕ, zero, suc, List, None, length, true}
use Rattle.markdown_base.specs.Questions.{Answers}
use Rattle.markdown_base.specs.Source.{Source}
use Rattle.markdown_inline.specs.Elements.{Element, event, question}
use Rattle.markdown_inline.specs.ReadingOfText.{reading_of_text}

-- the elements up to and including the question after so many others; all of them, if there is no such question
abbrev pub until_question : ℕ → List Element → List Element
until_question n [] = []
until_question n (event e ∷ es) = event e ∷ until_question n es
until_question zero (question q ∷ es) = question q ∷ []
until_question (suc n) (question q ∷ es) = question q ∷ until_question n es

-- with some answers given, a text is read up to and including the next question the same whatever answers follow
abbrev pub AnswersInOrder : Type 0
AnswersInOrder = (s : Source) (given later other : Answers)
    → until_question (length given) (reading_of_text s true (given ++ later))
    ≡ until_question (length given) (reading_of_text s true (given ++ other))

-- all of these answers are None
abbrev pub AreNone : Answers → Type 0
AreNone [] = Unit {0}
AreNone (a ∷ answers) = (a ≡ None) × AreNone answers

-- an answer that is not given is None
abbrev pub NoneAtTheEnd : Type 0
NoneAtTheEnd = (s : Source) (given none : Answers) → AreNone none
    → reading_of_text s true (given ++ none) ≡ reading_of_text s true given
