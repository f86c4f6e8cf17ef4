-- What a parser returns with ranges, up to its first None, is all that was left of it.
use Rattle.std.proofs.Common.{◌≡◌, ℕ, List, [], ◌∷◌, ◌++◌, map, Err, Option, None, Result, ap, refl, sym, ◌∙◌, is_some}
use Rattle.std.proofs.lemmas.List.Folds.{flat_map-map}
use Rattle.std.specs.Iterator.{Drains, Yields}
use Rattle.std.specs.List.{flat_map}
use Rattle.markdown_base.specs.Source.{Source}
use Rattle.markdown_base.specs.Questions.{Question, Answer, Answers}
use Rattle.markdown_base.specs.declared.fault.Fault.{Fault}
use Rattle.markdown_base.specs.declared.fault.Fault.TheVariants.{Memory}
use Rattle.markdown_defs.proofs.CallbackLemmas.{unasked}
use Rattle.markdown_inline.specs.Balanced.{ranged}
use Rattle.markdown_inline.specs.Elements.{Placed as Read, Element, event, events_of}
use Rattle.markdown_inline.specs.NextGives.{NextGives, IsPlacedOf}
use Rattle.markdown_inline.specs.ParserLeft.{ReadsText, elements, parser_callback, offset_parser}
use Rattle.markdown_inline.specs.declared.walk.OffsetIter.{OffsetIter}
use Rattle.markdown_inline.specs.declared.walk.Parser.{Parser}
use Rattle.markdown_inline.specs.ReadingOfText.{events_of_text, reading_of_text}
use Rattle.markdown_inline.proofs.RunLemmas.{events_of-questions}
use Rattle.markdown_json.specs.JsonLines.{PlacedEvent, IsWritten, StopsAtError, placed_items, lines_of}
use Rattle.markdown_json.specs.Json.{line_json}
use Rattle.markdown_outline.specs.Outline.{Ranged}
use Rattle.markdown_outline.specs.OutlineRead.{ranged_view}
use Rattle.markdown_text_json.specs.TextJson.{json_of_text, placed_line}

-- the line of an event with its range
abbrev ranged_line : Ranged → List ℕ
ranged_line e = line_json e.0 e.1.start e.1.end

-- the lines of events are those of their views
lines_seen : (given : List PlacedEvent) → lines_of given ≡ flat_map ranged_line (map ranged_view given)
lines_seen given = sym (flat_map-map ranged_line ranged_view given)

lines_placed : (events : List Read) → flat_map ranged_line (ranged events) ≡ flat_map placed_line events
lines_placed events = flat_map-map ranged_line (λ (e : Read). (e.0, e.1)) events

module _ {F : Type 0} (step : F → Question → Option Answer → F → Type 0) where
  -- calls of `next`
  abbrev Steps : OffsetIter F → Option (Result PlacedEvent Fault) → OffsetIter F → Type 0
  Steps o item t = NextGives step IsPlacedOf (offset_parser o) item (offset_parser t)

  -- an error item is one of memory
  pub memory_alone : (o left : OffsetIter F) (given : List PlacedEvent) (fault : Fault)
      → Yields Steps o (placed_items given ++ Err fault ∷ []) left → fault ≡ Memory
  memory_alone o left [] fault (j, h, y) = h.gives.memory
  memory_alone o left (e ∷ given) fault (j, h, y) = memory_alone j left given fault y

  pub stopped_by_memory : (o : OffsetIter F) (old new : List ℕ) (fault : Fault) → StopsAtError Steps o old new fault
      → fault ≡ Memory
  stopped_by_memory o old new fault s = memory_alone o s.left s.events fault s.read

  -- without a callback, the events returned are those of what was left
  drained : (o : OffsetIter F) (given : List PlacedEvent) → Drains Steps o (placed_items given)
      → parser_callback (offset_parser o) ≡ None
      → (later : Answers) → ranged (events_of (elements (offset_parser o) later)) ≡ map ranged_view given
  drained o [] (u, (t, y, z)) none later = rw (y, z.gives.none_left later) refl
  drained o (e ∷ given) (u, (t, (j, h, y), z)) none later =
      let g = h.gives in
      let asked = rw none at g.asked in
      let nobody = unasked step (parser_callback (offset_parser j)) g.questions g.answers asked in
      let left = rw nobody.0 at (g.left later) in
      let rest = drained j given (u, (t, y, z)) nobody.1 later in
      rw (
        left,
        events_of-questions g.questions (event g.placed ∷ elements (offset_parser j) later),
        g.is_item.is_event.view,
        g.is_item.range,
        rest,
      ) refl

  -- so they are those of the text, where all of its reading was left
  given_of_text : (s : Source) (p : Parser F) (o : OffsetIter F) (given : List PlacedEvent) → offset_parser o ≡ p
      → ReadsText s p → parser_callback p ≡ None → Drains Steps o (placed_items given)
      → map ranged_view given ≡ ranged (events_of_text s)
  given_of_text s p o given is reads none all =
      let left = reads.left [] ∙ ap (λ (c : Option F). reading_of_text s (is_some c) []) none in
      sym (drained o given all (ap (λ (q : Parser F). parser_callback q) is ∙ none) [])
      ∙ ap (λ (q : Parser F). ranged (events_of (elements q []))) is
      ∙ ap (λ (es : List Element). ranged (events_of es)) left

  -- and what is written is their lines
  pub json_written : (s : Source) (p : Parser F) (o : OffsetIter F) (old new : List ℕ) → offset_parser o ≡ p
      → ReadsText s p → parser_callback p ≡ None → old ≡ [] → IsWritten Steps o old new → new ≡ json_of_text s
  json_written s p o old new is reads none empty w =
      w.stands ∙ ap (λ bytes. bytes ++ lines_of w.events) empty
      ∙ lines_seen w.events
      ∙ ap (flat_map ranged_line) (given_of_text s p o w.events is reads none w.read)
      ∙ lines_placed (events_of_text s)
