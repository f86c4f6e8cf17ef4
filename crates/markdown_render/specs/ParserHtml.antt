-- What `push_html` writes for a parser: the HTML of the events that were left.
use Rattle.std.specs.Prelude.{◌≡◌, ℕ, List, ◌++◌, Option}
use Rattle.markdown_base.specs.Event.{EventView}
use Rattle.markdown_base.specs.Questions.{Question, Answer}
use Rattle.markdown_inline.specs.ParserLeft.{parser_callback, elements}
use Rattle.markdown_inline.specs.declared.walk.Parser.{Parser}
use Rattle.markdown_out.specs.EventHtml.{html_of, open_html}
use Rattle.markdown_render.specs.RenderingFor.{AreEventsFor, AreFirstEventsFor}

module _ {F : Type 0} (step : F → Question → Option Answer → F → Type 0) (p : Parser F) (old new : List ℕ) where
  -- the old text is followed by the HTML of all events that were left, for the answers of the parser's callback
  pub record IsHtmlOfAll : Type 0 where
    pub events : List EventView
    pub left : AreEventsFor step (parser_callback p) (elements p) events
    pub stands : new ≡ old ++ html_of events

  -- these are the first events that were left, and the old text is followed by their open HTML
  pub record IsHtmlOfFirst (events : List EventView) : Type 0 where
    pub left : AreFirstEventsFor step (parser_callback p) (elements p) events
    pub stands : new ≡ old ++ open_html events
