-- Look-ups of link labels: definitions, and questions about labels that are not defined.
use Rattle.std.specs.Prelude.{ℕ, ◌+◌, ◌-◌, Bool, ◌==◌, List, [], ◌∷◌, Option, Some, None, if◌then◌else◌, length}
use Rattle.std.specs.Prelude.{unwrap_or}
use Rattle.markdown_base.specs.BlockParts.{DefinitionView}
use Rattle.markdown_base.specs.Event.{LinkView}
use Rattle.markdown_base.specs.Questions.{Question, Answer, Answers}
use Rattle.markdown_base.specs.declared.tag.LinkType.{LinkType}
use Rattle.markdown_base.specs.declared.tag.LinkType.TheVariants as link
use Rattle.markdown_document.specs.Setting.{DefinitionsByLabel}

-- the result of a look-up: the target, the questions asked, the number of bytes that references may still expand to,
-- and the answers that are left
pub record LookedUp : Type 0 where
  pub target : Option LinkView
  pub questions : List Question
  pub limit : ℕ
  pub answers : Answers

-- the type of a link whose label the callback resolved
abbrev pub unknown : LinkType → LinkType
unknown link.Reference = link.ReferenceUnknown
unknown link.Collapsed = link.CollapsedUnknown
unknown link.Shortcut = link.ShortcutUnknown
unknown other = other

-- the number of bytes that a link expands to
abbrev pub size_of : LinkView → ℕ
size_of t = length t.destination + length t.title

-- a link is found: the limit falls by its number of bytes, but not below 0
abbrev pub finds : ℕ → Answers → List Question → LinkView → LookedUp
finds limit answers questions t =
    record { target = Some t; questions = questions; limit = limit - size_of t; answers = answers }

-- nothing is found
abbrev pub finds_nothing : ℕ → Answers → List Question → LookedUp
finds_nothing limit answers questions =
    record { target = None; questions = questions; limit = limit; answers = answers }

-- the link to a definition
abbrev pub defined_target : LinkType → DefinitionView → List ℕ → LinkView
defined_target link_type d label =
    record { kind = link_type; destination = d.destination; title = unwrap_or d.title []; label = label }

-- the link for an answer
abbrev pub answered_target : Question → Answer → LinkView
answered_target q a =
    record { kind = unknown q.link_type; destination = a.destination; title = a.title; label = q.reference }

-- the result for an answer
abbrev pub answered : ℕ → Answers → Question → Option Answer → LookedUp
answered limit answers q None = finds_nothing limit answers (q ∷ [])
answered limit answers q (Some a) = finds limit answers (q ∷ []) (answered_target q a)

-- the result for one question, with the first answer; `None` if no answers are left
abbrev pub asked : ℕ → Answers → Question → LookedUp
asked limit [] q = answered limit [] q None
asked limit (a ∷ answers) q = answered limit answers q a

-- the result by the definition of the label, if there is one; otherwise by a question, if there is a callback
abbrev pub defined_or_asked : Bool → ℕ → Answers → Question → Option DefinitionView → LookedUp
defined_or_asked asks limit answers q (Some d) =
    finds limit answers [] (defined_target q.link_type d q.reference)
defined_or_asked asks limit answers q None =
    if asks then asked limit answers q else finds_nothing limit answers []

-- the look-up of the link label in a question: at a limit of 0, nothing is found and no question is asked
abbrev pub look_up : DefinitionsByLabel → Bool → ℕ → Answers → Question → LookedUp
look_up defined asks limit answers q =
    if limit == 0 then finds_nothing limit answers []
    else defined_or_asked asks limit answers q (defined q.reference)
