-- A wikilink's body, as contracts describe it.
use Rattle.markdown_brackets.specs.Wikilink as body
use Rattle.markdown_brackets.specs.Wikilink.{Shows, shows_name, shows_nothing, shows_from}
use Rattle.markdown_brackets.specs.declared.wikilink.Shown.{Shown}
use Rattle.markdown_brackets.specs.declared.wikilink.Shown.TheVariants.{Name, Nothing, From}
use Rattle.markdown_brackets.specs.declared.wikilink.WikilinkBody.{WikilinkBody}

-- the view of what a wikilink shows
abbrev pub shown_view : Shown → Shows
shown_view Name = shows_name
shown_view (Nothing at) = shows_nothing at
shown_view (From at) = shows_from at

-- the view of a body, by the bytes of its name
abbrev pub body_view : WikilinkBody → body.WikilinkBody
body_view b = record { name = b.name.now; shows = shown_view b.shown }
