-- The HTML of what is left of a parser, with neighbouring texts merged.
use Rattle.std.specs.Prelude.{◌≡◌, ℕ, List, ◌++◌, Option, map}
use Rattle.markdown_base.specs.Event.{EventView}
use Rattle.markdown_base.specs.Questions.{Question, Answer}
use Rattle.markdown_base.specs.Source.{Source}
use Rattle.markdown_inline.specs.ReadingOfText.{events_of_text}
use Rattle.markdown_inline.specs.ParserLeft.{parser_callback, elements}
use Rattle.markdown_inline.specs.declared.walk.Parser.{Parser}
use Rattle.markdown_out.specs.EventHtml.{html_of}
use Rattle.markdown_out.specs.OutLaws.{merged_events}
use Rattle.markdown_out.specs.LookBacks.{IsTooDeep}
use Rattle.markdown_render.specs.RenderingFor.{AreEventsFor, AreFirstEventsFor}

-- this is the HTML of the merge of all events that were left, for the answers of the parser's callback
pub record IsMergedHtmlOf {F : Type 0} (step : F → Question → Option Answer → F → Type 0) (p : Parser F)
    (html : List ℕ) : Type 0 where
  pub events : List EventView
  pub left : AreEventsFor step (parser_callback p) (elements p) events
  pub merged : html ≡ html_of (merged_events events)

-- in a prefix of the merge of the first events that were left, more Starts are open in an image than can be counted
pub record IsMergeTooDeep {F : Type 0} (step : F → Question → Option Answer → F → Type 0) (p : Parser F) : Type 0 where
  pub events : List EventView
  pub left : AreFirstEventsFor step (parser_callback p) (elements p) events
  pub given : List EventView
  pub missing : List EventView
  pub prefix : merged_events events ≡ given ++ missing
  pub deep : IsTooDeep given

-- the HTML of the merge of a text's events, where no callback is asked
abbrev pub merged_html_of_text : Source → List ℕ
merged_html_of_text s = html_of (merged_events (map (λ e. e.0) (events_of_text s)))
