-- Laws of look-ups, in a reader's words.
use Rattle.std.specs.Prelude.{◌≡◌, ℕ, ◌+◌, ◌≤◌, ◌++◌, Bool, [], None, IfSome, length}
use Rattle.markdown_base.specs.Questions.{Question, Answers}
use Rattle.markdown_document.specs.Setting.{DefinitionsByLabel}
use Rattle.markdown_brackets.specs.Lookup.{look_up, size_of}

-- at most one question is asked
abbrev pub AsksOnceAtMost : DefinitionsByLabel → Bool → ℕ → Answers → Question → Type 0
AsksOnceAtMost defined asks limit answers q = length (look_up defined asks limit answers q).questions ≤ 1

-- at a limit of 0, nothing is found and no question is asked
abbrev pub FindsNothingAtZero : DefinitionsByLabel → Bool → Answers → Question → Type 0
FindsNothingAtZero defined asks answers q =
    look_up defined asks 0 answers q ≡ record { target = None; questions = []; limit = 0; answers = answers }

-- if there is one answer for each question, the result is the same whatever answers follow, and those are left
abbrev pub HandsOnLaterAnswers : DefinitionsByLabel → Bool → ℕ → Question → Answers → Answers → Type 0
HandsOnLaterAnswers defined asks limit q answers later =
    let alone = look_up defined asks limit answers q in
    length answers ≡ length alone.questions
    → look_up defined asks limit (answers ++ later) q
    ≡ record { target = alone.target; questions = alone.questions; limit = alone.limit; answers = later }

-- the limit falls by at most the number of bytes of what is found
abbrev pub TakesItsBytes : DefinitionsByLabel → Bool → ℕ → Answers → Question → Type 0
TakesItsBytes defined asks limit answers q =
    let found = look_up defined asks limit answers q in
    IfSome found.target (λ t. limit ≤ found.limit + size_of t)
