-- What safe rendering returns: the HTML of the safe events of a text's reading.
use Rattle.std.specs.Prelude.{◌≡◌, ℕ, List, ◌++◌, Option, is_some, map}
use Rattle.markdown_base.specs.Event.{EventView}
use Rattle.markdown_base.specs.Questions.{Question, Answer}
use Rattle.markdown_base.specs.Source.{Source}
use Rattle.markdown_inline.specs.ReadingOfText.{events_of_text, reading_of_text}
use Rattle.markdown_out.specs.LookBacks.{IsTooDeep}
use Rattle.markdown_render.specs.RenderingFor.{AreEventsFor, AreFirstEventsFor}
use Rattle.markdown_safe.specs.PlacedTree.{IsPlacedTree}
use Rattle.markdown_safe.specs.SafeEvents.{safe_events, safe_html_of}
use Rattle.markdown_safe.specs.SafeRules.{SafeRulesView}

-- the safe HTML of a text, by definition: that of its events, where no callback is asked
abbrev pub safe_html_of_text : SafeRulesView → Source → List ℕ
safe_html_of_text rules s = safe_html_of rules (map (λ e. e.0) (events_of_text s))

-- this is the safe HTML of a text, for the answers of the callback, and a tree
pub record IsSafeHtmlFor (rules : SafeRulesView) {F : Type 0} (step : F → Question → Option Answer → F → Type 0)
    (callback : Option F) (s : Source) (html : List ℕ) : Type 0 where
  pub events : List EventView
  pub read : AreEventsFor step callback (reading_of_text s (is_some callback)) events
  pub is : html ≡ safe_html_of rules events
  pub tree : IsPlacedTree html

-- among the first events of a text, for the answers of the callback, each made safe, more Starts are open in an image
-- than can be counted
pub record IsSafeTooDeepFor (rules : SafeRulesView) {F : Type 0} (step : F → Question → Option Answer → F → Type 0)
    (callback : Option F) (s : Source) : Type 0 where
  pub events : List EventView
  pub read : AreFirstEventsFor step callback (reading_of_text s (is_some callback)) events
  pub deep : IsTooDeep (safe_events rules events)

-- the same without a callback
pub record IsSafeTextTooDeep (rules : SafeRulesView) (s : Source) : Type 0 where
  pub given : List EventView
  pub missing : List EventView
  pub whole : map (λ e. e.0) (events_of_text s) ≡ given ++ missing
  pub deep : IsTooDeep (safe_events rules given)
