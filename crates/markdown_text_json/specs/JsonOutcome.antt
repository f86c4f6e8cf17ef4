-- What a run of the program that prints events has read and written, for each outcome.
use Rattle.std.specs.Prelude.{ℕ, List, Option, Result}
use Rattle.markdown_base.specs.Source.{source_as}
use Rattle.markdown_base.specs.Syntax.{profile_syntax}
use Rattle.markdown_base.specs.declared.options.Options.{Options}
use Rattle.markdown_render.specs.Outcome.{Leaves}
use Rattle.markdown_render.specs.declared.run.Failure.{Failure}
use Rattle.markdown_text_json.specs.TextJson.{json_of_text}

-- the output is the JSON of the text, by the port's profile, and no text is too deep for that
abbrev pub LeavesJson : {W : Type 0} → (W → Option (List ℕ)) → Options → (unread left : Option (List ℕ)) → (old new : W)
    → Result (Unit {0}) Failure → Type 0
LeavesJson contents options unread left old new =
    Leaves contents (λ bytes. json_of_text (source_as (profile_syntax options) bytes)) ⊥ unread left old new
