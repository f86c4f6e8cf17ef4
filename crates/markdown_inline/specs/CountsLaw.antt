-- No count of a walk reaches its maximum, so counts rise by plain addition.
use Rattle.std.specs.Prelude.{◌≡◌, ℕ, ◌+◌, ◌-◌, ◌^◌, ◌<◌, List, [], ◌∷◌, Option, Result, IfSome}
use Rattle.std.specs.declared.ops.Range.{Range}
use Rattle.markdown_base.specs.Questions.{Question, Answer}
use Rattle.markdown_base.specs.declared.event.Event.{Event}
use Rattle.markdown_base.specs.declared.fault.Fault.{Fault}
use Rattle.markdown_document.specs.Counts.{risen}
use Rattle.markdown_document.specs.declared.work.Work.{Work}
use Rattle.markdown_inline.specs.Elements.{Placed}
use Rattle.markdown_inline.specs.NextGives.{NextGives, IsEventOf, IsPlacedOf}
use Rattle.markdown_inline.specs.ParserLeft.{no_work, parser_steps, parser_work}
use Rattle.markdown_inline.specs.declared.walk.Parser.{Parser}

-- a sequence of calls of `next` leads from one parser to another, and returns these items and errors, or None; after
-- each item or error there are fewer steps to come
abbrev pub Calls : {F I : Type 0} → (F → Question → Option Answer → F → Type 0) → (List ℕ → I → Placed → Type 0)
    → Parser F → List (Option (Result I Fault)) → Parser F → Type 0
Calls step is_of s [] t = s ≡ t
Calls {F} step is_of s (given ∷ later) t =
    (u : Parser F) × NextGives step is_of s given u
    × IfSome given (λ _. parser_steps u < parser_steps s)
    × Calls step is_of u later t

-- no count has reached the maximum
pub record AreBelowGreatest (work : Work) : Type 0 where
  pub delimiters : work.delimiters < 2 ^ 128 - 1
  pub examined : work.examined < 2 ^ 128 - 1
  pub items : work.items < 2 ^ 128 - 1
  pub code_visits : work.code_visits < 2 ^ 128 - 1
  pub math_visits : work.math_visits < 2 ^ 128 - 1

-- no count has reached the maximum after any calls, refused or not, with ranges or without, from a parser whose counts
-- are 0
abbrev pub CountsLaw : {F : Type 0} → (F → Question → Option Answer → F → Type 0) → Parser F → Type 0
CountsLaw {F} step p = parser_work p ≡ no_work
    → ((given : List (Option (Result Event Fault))) (t : Parser F) → Calls step IsEventOf p given t
    → AreBelowGreatest (parser_work t))
    × ((given : List (Option (Result (Event × Range ℕ) Fault))) (t : Parser F) → Calls step IsPlacedOf p given t
    → AreBelowGreatest (parser_work t))

-- a count below the maximum has risen by plain addition
abbrev pub RisesPlainly : Type 0
RisesPlainly = (n count : ℕ) → risen n count < 2 ^ 128 - 1 → risen n count ≡ count + n
