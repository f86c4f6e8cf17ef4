-- What is written of events with their ranges, by form, and why nothing is.
use Rattle.std.specs.Prelude.{◌≡◌, ◌⊎◌, ℕ, List, [], ◌∷◌, map, Option, Some, None}
use Rattle.std.specs.List.{flat_map}
use Rattle.markdown_additions.specs.Additions.{AdditionsView, AreFirstAdded, added_events}
use Rattle.markdown_additions.specs.declared.written.Form.{Form}
use Rattle.markdown_additions.specs.declared.written.Form.TheVariants.{Html, SafeHtml, Lines}
use Rattle.markdown_base.specs.Event.{EventView}
use Rattle.markdown_base.specs.Source.{Source}
use Rattle.markdown_base.specs.declared.fault.Fault.{Fault}
use Rattle.markdown_base.specs.declared.fault.Fault.TheVariants.{Depth, Memory}
use Rattle.markdown_json.specs.Json.{line_json}
use Rattle.markdown_links.specs.LinkEntries.{LinkEntryView, link_entries_of}
use Rattle.markdown_out.specs.EventHtml.{html_of}
use Rattle.markdown_out.specs.LookBacks.{IsTooDeep}
use Rattle.markdown_outline.specs.Outline.{EntryView, Ranged, entries_of}
use Rattle.markdown_safe.specs.PlacedTree.{IsPlacedTree}
use Rattle.markdown_safe.specs.SafeEvents.{SafePast, no_past, past_after, safe_events, safe_html_of, safe_next}
use Rattle.markdown_safe.specs.SafeRules.{SafeRulesView, rules_view}

-- events without their ranges
abbrev pub bare_events : List Ranged → List EventView
bare_events events = map (λ e. e.0) events

-- the line of JSON of an event
abbrev pub ranged_line : Ranged → List ℕ
ranged_line e = line_json e.0 e.1.start e.1.end

-- what is written: HTML, safe HTML by rules, or lines of JSON
pub data FormView : Type 0 where
  as_html : FormView
  as_safe_html : SafeRulesView → FormView
  as_lines : FormView

abbrev pub view_of_form : Form → FormView
view_of_form Html = as_html
view_of_form (SafeHtml rules) = as_safe_html (rules_view rules)
view_of_form Lines = as_lines

-- what is written of events
abbrev pub written_of : FormView → List Ranged → List ℕ
written_of as_html events = html_of (bare_events events)
written_of (as_safe_html rules) events = safe_html_of rules (bare_events events)
written_of as_lines events = flat_map ranged_line events

-- among first events, as they are written in a form, more Starts are open in an image than can be counted
abbrev pub IsTooDeepIn : FormView → List Ranged → Type 0
IsTooDeepIn as_html events = IsTooDeep (bare_events events)
IsTooDeepIn (as_safe_html rules) events = IsTooDeep (safe_events rules (bare_events events))
IsTooDeepIn as_lines events = ⊥

-- first events that are so
pub record BeginsTooDeep (form : FormView) (begins : List Ranged → Type 0) : Type 0 where
  pub events : List Ranged
  pub begin : begins events
  pub deep : IsTooDeepIn form events

-- this is why nothing is written: memory was refused, or the first events are too deep
abbrev pub IsFaultOfWriting : FormView → (begins : List Ranged → Type 0) → Fault → Type 0
IsFaultOfWriting form begins fault = (fault ≡ Memory) ⊎ ((fault ≡ Depth) × BeginsTooDeep form begins)

-- what is written of the events of a text with what is added
abbrev pub written_of_text : FormView → AdditionsView → Source → List ℕ
written_of_text form a s = written_of form (added_events a s)

-- this is why nothing is written of a text
abbrev pub IsFaultOfWritingText : FormView → AdditionsView → Source → Fault → Type 0
IsFaultOfWritingText form a s fault = IsFaultOfWriting form (AreFirstAdded a s) fault

-- safe HTML is a tree, whose elements stand where a browser leaves them
abbrev pub IsTreeIn : FormView → List ℕ → Type 0
IsTreeIn (as_safe_html rules) written = IsPlacedTree written
IsTreeIn other written = Unit {0}

-- events after others, made safe; their ranges stay
abbrev pub safe_ranged_from : SafeRulesView → SafePast → List Ranged → List Ranged
safe_ranged_from rules past [] = []
safe_ranged_from rules past (e ∷ events) =
    (safe_next rules past e.0, e.1) ∷ safe_ranged_from rules (past_after rules past e.0) events

-- events made safe; their ranges stay
abbrev pub safe_ranged : SafeRulesView → List Ranged → List Ranged
safe_ranged rules events = safe_ranged_from rules no_past events

-- the same, where that is asked for
abbrev pub safe_if : Option SafeRulesView → List Ranged → List Ranged
safe_if None events = events
safe_if (Some rules) events = safe_ranged rules events

-- the headings of a text with what is added, made safe where that is asked for
abbrev pub headings_of_text : (safe : Option SafeRulesView) → AdditionsView → Source → List EntryView
headings_of_text safe a s = entries_of (safe_if safe (added_events a s))

-- the links and images of a text with what is added
abbrev pub links_with_additions : AdditionsView → Source → List LinkEntryView
links_with_additions a s = link_entries_of (added_events a s)
