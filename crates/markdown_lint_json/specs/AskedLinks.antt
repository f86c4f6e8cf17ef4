-- A callback that keeps what it is asked. Only private clauses cite this.
use Rattle.std.specs.Prelude.{◌≡◌, List, [], ◌∷◌, ◌++◌, false, map, Option, None}
use Rattle.markdown_base.specs.Questions.{Question, Answer}
use Rattle.markdown_defs.specs.CallbackViews.{question_of}
use Rattle.markdown_lint_json.specs.declared.asked.Asked.{Asked}

-- the answer to a question is None, and unless an allocation was refused, the question is kept after those before
pub record Keeps (old : Asked) (question : Question) (answer : Option Answer) (new : Asked) : Type 0 where
  pub unanswered : answer ≡ None
  pub kept : new.is_refused ≡ false → (old.is_refused ≡ false)
      × (map question_of new.links.items ≡ map question_of old.links.items ++ question ∷ [])
