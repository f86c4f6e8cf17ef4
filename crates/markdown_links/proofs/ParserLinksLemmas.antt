-- The links of what a parser returns with its ranges are those of the text, where there is no callback.
use Rattle.std.proofs.Common.{◌≡◌, ℕ, List, [], ◌∷◌, ◌++◌, map, Err, Option, None, Result, ap, refl, sym, ◌∙◌, is_some}
use Rattle.std.specs.Iterator.{Drains, Yields}
use Rattle.std.specs.declared.ops.Range.{Range}
use Rattle.markdown_base.specs.Questions.{Question, Answer, Answers}
use Rattle.markdown_base.specs.Source.{Source}
use Rattle.markdown_base.specs.declared.event.Event.{Event}
use Rattle.markdown_base.specs.declared.fault.Fault.{Fault}
use Rattle.markdown_base.specs.declared.fault.Fault.TheVariants.{Memory}
use Rattle.markdown_defs.proofs.CallbackLemmas.{unasked}
use Rattle.markdown_inline.specs.Balanced.{ranged}
use Rattle.markdown_inline.specs.Elements.{Element, event, events_of}
use Rattle.markdown_inline.specs.NextGives.{NextGives, IsPlacedOf}
use Rattle.markdown_inline.specs.ParserLeft.{ReadsText, elements, offset_parser, parser_callback}
use Rattle.markdown_inline.specs.ReadingOfText.{reading_of_text}
use Rattle.markdown_inline.specs.declared.walk.OffsetIter.{OffsetIter}
use Rattle.markdown_inline.proofs.RunLemmas.{events_of-questions}
use Rattle.markdown_links.specs.LinkEntries.{LinkEntryView, link_entries_of}
use Rattle.markdown_links.specs.LinksOfText.{links_of_text}
use Rattle.markdown_links.specs.LinksRead.{AreLinksOfAll}
use Rattle.markdown_outline.specs.OutlineRead.{MeetsError, event_items, ranged_view}

module _ {F : Type 0} (step : F → Question → Option Answer → F → Type 0) where
  -- calls of `next`
  abbrev Steps : OffsetIter F → Option (Result (Event × Range ℕ) Fault) → OffsetIter F → Type 0
  Steps o item t = NextGives step IsPlacedOf (offset_parser o) item (offset_parser t)

  -- an error item is one of memory
  memory_alone : (o left : OffsetIter F) (given : List (Event × Range ℕ)) (fault : Fault)
      → Yields Steps o (event_items given ++ Err fault ∷ []) left → fault ≡ Memory
  memory_alone o left [] fault (j, h, y) = h.gives.memory
  memory_alone o left (e ∷ given) fault (j, h, y) = memory_alone j left given fault y

  pub fault_of_memory : (o : OffsetIter F) (fault : Fault) → MeetsError Steps o fault → fault ≡ Memory
  fault_of_memory o fault m = memory_alone o m.left m.events fault m.read

  -- without a callback, the events returned are those of what was left
  drained : (o : OffsetIter F) (given : List (Event × Range ℕ)) → Drains Steps o (event_items given)
      → parser_callback (offset_parser o) ≡ None
      → (later : Answers) → ranged (events_of (elements (offset_parser o) later)) ≡ map ranged_view given
  drained o [] (u, (t, y, z)) none later = rw (y, z.gives.none_left later) refl
  drained o (e ∷ given) (u, (t, (j, h, y), z)) none later =
      let g = h.gives in
      let asked = rw none at g.asked in
      let nobody = unasked step (parser_callback (offset_parser j)) g.questions g.answers asked in
      let left = rw nobody.0 at (g.left later) in
      let rest = drained j given (u, (t, y, z)) nobody.1 later in
      rw (
        left,
        events_of-questions g.questions (event g.placed ∷ elements (offset_parser j) later),
        g.is_item.is_event.view,
        g.is_item.range,
        rest,
      ) refl

  -- so the links are those of the text, where all of its reading was left
  pub links_of_parser : (s : Source) (o : OffsetIter F) (entries : List LinkEntryView) → ReadsText s (offset_parser o)
      → parser_callback (offset_parser o) ≡ None → AreLinksOfAll Steps o entries → entries ≡ links_of_text s
  links_of_parser s o entries reads none a =
      let left = reads.left [] ∙ ap (λ (c : Option F). reading_of_text s (is_some c) []) none in
      a.are ∙ ap link_entries_of (sym (drained o a.events a.read none [])
      ∙ ap (λ (es : List Element). ranged (events_of es)) left)
