-- What a link checker reports: the destinations of a text's links and images, and the number of its
-- undefined link labels.
use Rattle.std.specs.Prelude.{◌≡◌, ℕ, ◌+◌, ◌-◌, ◌^◌, min, List, length, map, Option, Some, None}
use Rattle.std.specs.List.{filter_map}
use Rattle.std.specs.Option.{option_map}
use Rattle.std.specs.declared.ops.Range.{Range}
use Rattle.markdown.specs.DefsWords.{Answer, Question}
use Rattle.markdown.specs.EventWords.{text_of, EventView, start, TagView, link, image}
use Rattle.markdown.specs.ReadingWords.{Ranged}
use Rattle.markdown_callers.specs.TextReading.{placed_events, questions_in}
use Rattle.markdown_callers.specs.declared.link_checker.FoundLink.{FoundLink}
use Rattle.markdown_callers.specs.declared.link_checker.UndefinedLabels.{UndefinedLabels}

-- the destination of a link or an image; other tags have none
abbrev pub tag_destination : TagView → Option (List ℕ)
tag_destination (link l) = Some l.destination
tag_destination (image l) = Some l.destination
tag_destination other = None

-- the destination of the link or image that begins with an event
abbrev pub event_destination : EventView → Option (List ℕ)
event_destination (start tag) = tag_destination tag
event_destination other = None

-- a destination, with the range of its link or image
abbrev pub Target : Type 0
Target = List ℕ × Range ℕ

-- the target of an event and its range, if a link or an image begins with it
abbrev pub event_target : Ranged → Option Target
event_target e = option_map (λ destination. (destination, e.1)) (event_destination e.0)

-- the targets of some events, in order
abbrev pub targets_of : List Ranged → List Target
targets_of events = filter_map event_target events

-- the target that a `FoundLink` holds, with its destination as bytes
abbrev pub link_target : FoundLink → Target
link_target l = (text_of l.destination, l.range)

-- the targets of a text
abbrev pub links_in : (text : List ℕ) → List Target
links_in text = targets_of (placed_events text)

-- the greatest `u64`
abbrev pub greatest_count : ℕ
greatest_count = 2 ^ 64 - 1

-- a question is counted, up to the greatest count, and the answer is None
abbrev pub CountsQuestion : UndefinedLabels → Question → Option Answer → UndefinedLabels → Type 0
CountsQuestion old question answer new =
    (answer ≡ None) × (new.count ≡ min (old.count + 1) greatest_count)

-- this is the number of questions of a text, of which none is answered, up to the greatest count
pub record CountsQuestions (text : List ℕ) (count : ℕ) : Type 0 where
  pub questions : List Question
  pub asked : questions ≡ questions_in text (map (λ q. None) questions)
  pub counted : count ≡ min (length questions) greatest_count
