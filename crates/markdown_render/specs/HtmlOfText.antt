-- The HTML of a text, by definition: that of its events, where no callback is asked.
use Rattle.std.specs.Prelude.{◌≡◌, ℕ, List, ◌++◌, map}
use Rattle.markdown_base.specs.Event.{EventView}
use Rattle.markdown_base.specs.Source.{Source}
use Rattle.markdown_inline.specs.Elements.{Element, events_of}
use Rattle.markdown_inline.specs.ReadingOfText.{events_of_text}
use Rattle.markdown_out.specs.EventHtml.{html_of}
use Rattle.markdown_out.specs.LookBacks.{IsTooDeep}

-- the events among these elements
abbrev pub views_of : List Element → List EventView
views_of elements = map (λ e. e.0) (events_of elements)

abbrev pub html_of_text : Source → List ℕ
html_of_text s = html_of (map (λ e. e.0) (events_of_text s))

-- among the first of its events, more Starts are open in an image than can be counted
pub record IsTextTooDeep (s : Source) : Type 0 where
  pub given : List EventView
  pub missing : List EventView
  pub whole : map (λ e. e.0) (events_of_text s) ≡ given ++ missing
  pub deep : IsTooDeep given
