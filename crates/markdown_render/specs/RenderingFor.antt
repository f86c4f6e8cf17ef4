-- What rendering returns where a callback is asked: the HTML of the reading of a text, for the answers that it gave.
use Rattle.std.specs.Prelude.{◌≡◌, ℕ, List, ◌++◌, Option, is_some}
use Rattle.markdown_base.specs.Questions.{Question, Answer, Answers}
use Rattle.markdown_base.specs.Event.{EventView}
use Rattle.markdown_base.specs.Source.{Source}
use Rattle.markdown_defs.specs.Callback.{Asks}
use Rattle.markdown_inline.specs.Elements.{Element, questions_of}
use Rattle.markdown_inline.specs.ReadingOfText.{reading_of_text}
use Rattle.markdown_out.specs.EventHtml.{html_of}
use Rattle.markdown_out.specs.LookBacks.{IsTooDeep}
use Rattle.markdown_render.specs.HtmlOfText.{views_of}

-- These are the events of what is read, for the answers that the callback, if there is one, gave to exactly the
-- questions in it, in order. Answers that would follow change nothing.
pub record AreEventsFor {F : Type 0} (step : F → Question → Option Answer → F → Type 0) (callback : Option F)
    (read : Answers → List Element) (events : List EventView) : Type 0 where
  pub answers : Answers
  pub after : Option F
  pub asked : Asks step callback (questions_of (read answers)) answers after
  pub are : (later : Answers) → views_of (read (answers ++ later)) ≡ events

-- These are the first events of what is read, for the answers that the callback, if there is one, gave to the first
-- questions in it, in order. Answers that would follow change nothing in them.
pub record AreFirstEventsFor {F : Type 0} (step : F → Question → Option Answer → F → Type 0) (callback : Option F)
    (read : Answers → List Element) (events : List EventView) : Type 0 where
  pub questions : List Question
  pub answers : Answers
  pub after : Option F
  pub asked : Asks step callback questions answers after
  pub first_asked : (later : Answers) → (more : List Question)
      × (questions_of (read (answers ++ later)) ≡ questions ++ more)
  pub are_first : (later : Answers) → (more : List EventView) × (views_of (read (answers ++ later)) ≡ events ++ more)

-- this is the HTML of a text, for the answers of the callback
pub record IsHtmlFor {F : Type 0} (step : F → Question → Option Answer → F → Type 0) (callback : Option F) (s : Source)
    (html : List ℕ) : Type 0 where
  pub events : List EventView
  pub read : AreEventsFor step callback (reading_of_text s (is_some callback)) events
  pub is : html ≡ html_of events

-- among the first events of a text, for the answers of the callback, more Starts are open in an image than can be
-- counted
pub record IsTooDeepFor {F : Type 0} (step : F → Question → Option Answer → F → Type 0) (callback : Option F)
    (s : Source) : Type 0 where
  pub events : List EventView
  pub read : AreFirstEventsFor step callback (reading_of_text s (is_some callback)) events
  pub deep : IsTooDeep events
