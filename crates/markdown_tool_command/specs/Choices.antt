-- The formats by their names, and which choices do not go together.
use Rattle.std.specs.Prelude.{ℕ, Bool, true, false, not, ◌&&◌, List, [], ◌∷◌, Option}
use Rattle.std.specs.Prelude.{Some, None, Result, Ok, Err, if◌then◌else◌}
use Rattle.std.specs.Prelude.{codes}
use Rattle.std.specs.Str.{bytes_eq}
use Rattle.markdown_tool_command.specs.declared.choices.Format.{Format}
use Rattle.markdown_tool_command.specs.declared.choices.Format.TheVariants.{Html, SafeHtml, Events, Outline, Contents}
use Rattle.markdown_tool_command.specs.declared.choices.Format.TheVariants.{Links, Broken}
use Rattle.markdown_tool_command.specs.declared.choices.Choices.{Choices}
use Rattle.markdown_tool_command.specs.declared.choices.Misuse.{Misuse}
use Rattle.markdown_tool_command.specs.declared.choices.Misuse.TheVariants.{SafeWithoutHtml, PageWithoutHtml}
use Rattle.markdown_tool_command.specs.declared.choices.Misuse.TheVariants.{PartWithoutPage, RuleWithoutSafe}
use Rattle.markdown_tool_command.specs.declared.choices.Misuse.TheVariants.{PositionsWithoutLines}

-- the names of the formats
abbrev pub format_names : List (List ℕ)
format_names =
    codes "html" ∷ codes "events" ∷ codes "outline" ∷ codes "toc" ∷ codes "links" ∷ codes "broken" ∷ []

-- the format of a name; None where it is not offered
abbrev pub format_named : List ℕ → Option Format
format_named name =
    if bytes_eq name (codes "html") then Some Html
    else if bytes_eq name (codes "events") then Some Events
    else if bytes_eq name (codes "outline") then Some Outline
    else if bytes_eq name (codes "toc") then Some Contents
    else if bytes_eq name (codes "links") then Some Links
    else if bytes_eq name (codes "broken") then Some Broken
    else None

-- the format that is made where this one other than HTML is named: safe HTML and pages are none of its
abbrev pub other_format : Format → Choices → Result Format Misuse
other_format named choices =
    if choices.safe then Err SafeWithoutHtml else if choices.page then Err PageWithoutHtml else Ok named

-- the format that is made where this one is named
abbrev pub made_format : Format → Choices → Result Format Misuse
made_format Html choices = Ok (if choices.safe then SafeHtml else Html)
made_format named choices = other_format named choices

-- whether a format is lines of JSON with ranges, which may have the lines and columns of their ranges
abbrev pub has_places : Format → Bool
has_places Html = false
has_places SafeHtml = false
has_places Contents = false
has_places other = true

-- a format that is made, where positions are asked for with lines alone
abbrev pub checked_positions : Choices → Result Format Misuse → Result Format Misuse
checked_positions choices (Err misuse) = Err misuse
checked_positions choices (Ok made) =
    if choices.positions && not (has_places made) then Err PositionsWithoutLines else Ok made

-- the format that is made, where a part of a page is asked for with the page alone, a rule of safe HTML with safe HTML
-- alone, and positions with lines alone
abbrev pub checked_format : Format → Choices → Result Format Misuse
checked_format named choices =
    if choices.part && not choices.page then Err PartWithoutPage
    else if choices.rule && not choices.safe then Err RuleWithoutSafe
    else checked_positions choices (made_format named choices)
