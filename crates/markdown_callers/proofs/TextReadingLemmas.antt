-- What a new parser of a text returns is the reading of the text.
use Rattle.std.proofs.Common.{◌≡◌, ℕ, List, [], ◌∷◌, ◌++◌, map, Ok, Err, Result, Option, None, Some, false, true, refl}
use Rattle.std.proofs.Common.{ap, subst, sym, ◌∙◌}
use Rattle.std.specs.Prelude.{is_some}
use Rattle.std.specs.declared.ops.Range.{Range}
use Rattle.markdown.specs.DefsWords.{Answer, Answers, Asks, Question}
use Rattle.markdown.specs.EventWords.{Event}
use Rattle.markdown.specs.OptionWords.{Source, commonmark, source_as}
use Rattle.markdown.specs.ReadingWords.{AreOf, GaveRest, IsPlacedOf, OffsetIter, Parser, Placed, Ranged, ReadsText}
use Rattle.markdown.specs.ReadingWords.{elements, events_of, offset_parser, parser_callback, parser_text, questions_of}
use Rattle.markdown.specs.ReadingWords.{ranged, reading_of_text, viewed}
use Rattle.markdown_callers.specs.TextReading.{placed_events, questions_in}

-- the views of events are those of the reading's events
viewed-placed : (source : List ℕ) (given : List (Event × Range ℕ)) (events : List Placed)
    → AreOf IsPlacedOf source given events → viewed given ≡ ranged events
viewed-placed source [] [] are = refl
viewed-placed source [] (placed ∷ events) are = absurd are
viewed-placed source (e ∷ given) [] are = absurd are
viewed-placed source (e ∷ given) (placed ∷ events) are =
    rw (are.0.is_event.view, are.0.range, viewed-placed source given events are.1) refl

module _ {F : Type 0} (step : F → Question → Option Answer → F → Type 0) where
  -- without a callback there is no answer
  unasked : (questions : List Question) (answers : Answers) (after : Option F) → Asks step None questions answers after
      → answers ≡ []
  unasked [] [] after asks = refl
  unasked [] (answer ∷ answers) after asks = absurd asks
  unasked (q ∷ questions) [] after asks = absurd asks
  unasked (q ∷ questions) (answer ∷ answers) after asks = absurd asks

  -- so what a parser without a callback returns are the events of its text
  pub are_events : (text : List ℕ) (p : Parser F) (o : OffsetIter F) (given : List (Event × Range ℕ)) (after : Option F)
      → ReadsText (source_as commonmark text) p → parser_callback p ≡ None → offset_parser o ≡ p
      → GaveRest IsPlacedOf step (offset_parser o) given after → viewed given ≡ placed_events text
  are_events text p o given after reads none begun all =
      let s : Source = source_as commonmark text in
      let rest : GaveRest IsPlacedOf step p given after = rw begun at all in
      let silent : rest.answers ≡ [] =
      unasked (questions_of (elements p rest.answers)) rest.answers after
      (subst (λ (c : Option F). Asks step c (questions_of (elements p rest.answers)) rest.answers after) none
      rest.asked) in
      let left : events_of (elements p []) ≡ rest.events =
      subst (λ (a : Answers). events_of (elements p (a ++ [])) ≡ rest.events) silent (rest.left []) in
      let read : elements p [] ≡ reading_of_text s false [] =
      subst (λ (c : Option F). elements p [] ≡ reading_of_text s (is_some c) []) none (reads.left []) in
      viewed-placed (parser_text p) given rest.events rest.are ∙ ap ranged (sym left ∙ ap events_of read)

  -- where no question was answered, those that were asked are the questions of the text
  pub are_questions : (text : List ℕ) (p : Parser F) (callback : F) (answers : Answers)
      → ReadsText (source_as commonmark text) p → parser_callback p ≡ Some callback
      → answers ≡ map (λ q. None) (questions_of (elements p answers))
      → questions_of (elements p answers) ≡ questions_in text (map (λ q. None) (questions_of (elements p answers)))
  are_questions text p callback answers reads holds refused =
      let s : Source = source_as commonmark text in
      let read : elements p answers ≡ reading_of_text s true answers =
      subst (λ (c : Option F). elements p answers ≡ reading_of_text s (is_some c) answers) holds (reads.left answers) in
      ap questions_of read ∙ ap (λ (a : Answers). questions_in text a) refused
