-- Look-ups, as contracts describe them: the callback answered at most one question.
use Rattle.std.specs.Prelude.{◌≡◌, ◌++◌, ℕ, ◌-◌, List, Option, Some, None, MatchOption, is_some}
use Rattle.markdown_base.specs.BlockParts.{definition_view}
use Rattle.markdown_base.specs.CowText.{text_of}
use Rattle.markdown_base.specs.Event.{LinkView}
use Rattle.markdown_base.specs.Questions.{Question, Answer, Answers}
use Rattle.markdown_defs.specs.Callback.{Asks}
use Rattle.markdown_defs.specs.Definitions as definitions
use Rattle.markdown_defs.specs.Definitions.{Labelled}
use Rattle.markdown_document.specs.Setting.{by_label}
use Rattle.markdown_brackets.specs.Lookup.{look_up, answered_target, defined_target, size_of}
use Rattle.markdown_brackets.specs.declared.look_up.LabelLookup.{LabelLookup}
use Rattle.markdown_brackets.specs.declared.look_up.Target.{Target}

-- a target, by the bytes of its texts
abbrev pub target_view : Target → LinkView
target_view t = record {
  kind = t.link_type;
  destination = text_of t.destination;
  title = text_of t.title;
  label = text_of t.id;
}

-- the target for an answer, if it resolves the question
abbrev pub target_by : Question → Option Answer → Option LinkView
target_by q None = None
target_by q (Some a) = Some (answered_target q a)

-- the callback, if there is one, answered this question, and this is the target for the answer
abbrev pub IsAnswered : {C : Type 0} → (C → Question → Option Answer → C → Type 0) → Question → Option C → Option C
    → Option LinkView → Type 0
IsAnswered step q None new target = (new ≡ None) × (target ≡ None)
IsAnswered {C} step q (Some old) new target =
    (then : C) × (answer : Option Answer) × step old q answer then × (new ≡ Some then) × (target ≡ target_by q answer)

-- the target of a label: that of its definition, with the callback unchanged; or without one, that of the callback's
-- answer
abbrev pub FindsTarget : {C : Type 0} → (C → Question → Option Answer → C → Type 0) → List Labelled → Question
    → Option C → Option C → Option LinkView → Type 0
FindsTarget step defined q old new target =
    MatchOption (definitions.find_definition q.reference defined) (IsAnswered step q old new target)
    (λ d. (new ≡ old) × (target ≡ Some (defined_target q.link_type (definition_view d) q.reference)))

-- the limit that is left after a link was found, or after nothing was found
abbrev pub limit_after : ℕ → Option LinkView → ℕ
limit_after limit None = limit
limit_after limit (Some t) = limit - size_of t

-- the target of a look-up: the callback answered the questions asked, and the result is the defined one whatever
-- answers follow, which are left
pub record LooksUp {C : Type 0} (step : C → Question → Option Answer → C → Type 0) (old new : LabelLookup C)
    (q : Question) (target : Option LinkView) : Type 0 where
  pub answers : Answers
  pub questions : List Question
  pub asked : Asks step old.callback questions answers new.callback
  pub finds : (later : Answers)
      → look_up (by_label old.tables.refdefs) (is_some old.callback) old.limit (answers ++ later) q
      ≡ record { target = target; questions = questions; limit = new.limit; answers = later }
