-- What `push_html` writes for a merge over a parser is the HTML of the merge of the events that were left.
use Rattle.std.proofs.Common.{◌≡◌, ◌⊎◌, ℕ, List, [], map, Option, None, Result, false, ap, inl, inr, refl, subst, ◌∙◌}
use Rattle.std.specs.Iterator.{Count}
use Rattle.markdown_base.specs.Event.{EventView, event_view}
use Rattle.markdown_base.specs.Source.{Source}
use Rattle.markdown_base.specs.declared.event.Event.{Event}
use Rattle.markdown_base.specs.declared.fault.Fault.{Fault}
use Rattle.markdown_base.specs.declared.fault.Fault.TheVariants.{Memory, Blocks, Depth}
use Rattle.markdown_base.specs.Questions.{Question, Answer}
use Rattle.markdown_inline.specs.NextGives.{NextGives, IsEventOf}
use Rattle.markdown_inline.specs.ParserLeft.{ReadsText, parser_callback}
use Rattle.markdown_inline.specs.declared.walk.Parser.{Parser}
use Rattle.markdown_out.specs.EventHtml.{html_of}
use Rattle.markdown_out.specs.HtmlCorrect.{IsOwnFault, IsRendered, StopsAtError}
use Rattle.markdown_out.specs.MergeNext.{MergeState, formed_view}
use Rattle.markdown_out.specs.MergeState.{stream_state}
use Rattle.markdown_out.specs.OutLaws.{StaysEnded, merge_steps, merged_events, IsNewMerge, IsRenderedMerged}
use Rattle.markdown_out.specs.OutLaws.{GoesTooDeepMerged, IsRefusedMerged, StopsAtErrorMerged}
use Rattle.markdown_out.specs.EventRanges.{bare, nowhere}
use Rattle.markdown_out.specs.TextForms.{Formed, boxed_through}
use Rattle.markdown_out.specs.declared.merge.TextMergeStream.{TextMergeStream}
use Rattle.markdown_out.proofs.RenderedMergeLemmas.{deep-merged, rendered-merged, stopped-merged}
use Rattle.markdown_render.specs.Merged.{IsMergedHtmlOf, IsMergeTooDeep, merged_html_of_text}
use Rattle.markdown_render.proofs.RenderingLemmas.{drained, events_alone, first_drained, memory_alone, read_by_rules}

-- a parser stays ended
stays_ended : {F : Type 0} (step : F → Question → Option Answer → F → Type 0) (p : Parser F)
    → StaysEnded (NextGives step IsEventOf) p
stays_ended step p answers s t u r gave none next = (next.stays none.gives.over).0

-- the HTML of a merge of all events that a parser gave
of_events : {F : Type 0} (step : F → Question → Option Answer → F → Type 0) (p : Parser F) (old html : List ℕ) → old
    ≡ []
    → IsRenderedMerged (NextGives step IsEventOf) p old html → IsMergedHtmlOf step p html
of_events step p old html empty r = record {
  events = map event_view r.events;
  left = drained step p r.events r.read;
  merged = rw empty at r.stands;
}

-- a merge that has read nothing yet
begun_of : {F : Type 0} (m : TextMergeStream (Parser F)) (p : Parser F)
    → stream_state m ≡ record { iter = p; held = []; over = false } → IsNewMerge (stream_state m)
begun_of {F} m p new = record {
  holds = ap (λ (s : MergeState (Parser F) (Formed (Unit {0}))). s.held) new;
  goes_on = ap (λ (s : MergeState (Parser F) (Formed (Unit {0}))). s.over) new;
}

-- the HTML of a new merge over a parser
pub merged : {F : Type 0} (step : F → Question → Option Answer → F → Type 0) (can : Parser F → Type 0)
    (rest : Parser F → Count)
    (m : TextMergeStream (Parser F)) (p : Parser F) (old html : List ℕ)
    → stream_state m ≡ record { iter = p; held = []; over = false } → old ≡ []
    → IsRendered (merge_steps (boxed_through nowhere) (formed_view bare)
    (NextGives step IsEventOf) can rest stream_state) m old html
    → IsMergedHtmlOf step p html
merged {F} step can rest m p old html new empty r =
    let begun = begun_of m p new in
    let of = rendered-merged (NextGives step IsEventOf) can rest stream_state m (stays_ended step (stream_state m).iter)
    old html begun r in
    of_events step p old html empty
    (subst (λ (q : Parser F). IsRenderedMerged (NextGives step IsEventOf) q old html)
    (ap (λ (s : MergeState (Parser F) (Formed (Unit {0}))). s.iter) new) of)

module _ {F : Type 0} (step : F → Question → Option Answer → F → Type 0) (can : Parser F → Type 0)
    (rest : Parser F → Count) where
  abbrev Steps : Parser F → Option (Result Event Fault) → Parser F → Type 0
  Steps = NextGives step IsEventOf

  abbrev MergeSteps : TextMergeStream (Parser F) → Option (Result Event Fault) → TextMergeStream (Parser F) → Type 0
  MergeSteps = merge_steps (boxed_through nowhere) (formed_view bare) Steps can rest stream_state

  -- a parser in which too many Starts are open, merged
  of_deep : (p : Parser F) (old new : List ℕ) → GoesTooDeepMerged Steps p old new → IsMergeTooDeep step p
  of_deep p old new d = record {
    events = map event_view d.events;
    left = first_drained step p d.left d.events d.read;
    given = d.given;
    missing = d.missing;
    prefix = d.prefix;
    deep = d.deep;
  }

  module _ (m : TextMergeStream (Parser F)) (begun : IsNewMerge (stream_state m)) (old new : List ℕ) where
    abbrev it : Parser F
    it = (stream_state m).iter

    stopped : (fault : Fault)
        → StopsAtErrorMerged Steps it old new fault ⊎ ((fault ≡ Memory) × IsRefusedMerged Steps it old new) → fault
        ≡ Memory
    stopped fault (inl s) = memory_alone step it s.left s.events fault s.read
    stopped fault (inr r) = r.0

    -- a merge is stopped by memory, or there
    own_faults : (fault : Fault) → IsOwnFault MergeSteps m old new fault
        → (fault ≡ Memory) ⊎ ((fault ≡ Depth) × IsMergeTooDeep step it)
    own_faults Memory own = inl refl
    own_faults Depth own =
        inr (
          refl,
          of_deep it old new
              (deep-merged Steps can rest stream_state m (stays_ended step it) old new begun own),
        )
    own_faults Blocks own = absurd own

    faults : (fault : Fault) → StopsAtError MergeSteps m old new fault ⊎ IsOwnFault MergeSteps m old new fault
        → (fault ≡ Memory) ⊎ ((fault ≡ Depth) × IsMergeTooDeep step it)
    faults fault (inl s) =
        inl (stopped fault (stopped-merged Steps can rest stream_state m (stays_ended step it) old new begun fault s))
    faults fault (inr own) = own_faults fault own

  -- so is the HTML of a new merge over a parser
  pub merged_faults : (m : TextMergeStream (Parser F)) (p : Parser F) (old new : List ℕ) (fault : Fault)
      → stream_state m ≡ record { iter = p; held = []; over = false }
      → StopsAtError MergeSteps m old new fault ⊎ IsOwnFault MergeSteps m old new fault
      → (fault ≡ Memory) ⊎ ((fault ≡ Depth) × IsMergeTooDeep step p)
  merged_faults m p old new fault is stops =
      subst (λ (q : Parser F). (fault ≡ Memory) ⊎ ((fault ≡ Depth) × IsMergeTooDeep step q))
      (ap (λ (s : MergeState (Parser F) (Formed (Unit {0}))). s.iter) is)
      (faults m (begun_of m p is) old new fault stops)

-- without a callback the HTML of a new parser's merge is that of the text's
pub merged_alone : {F : Type 0} (step : F → Question → Option Answer → F → Type 0) (s : Source) (p : Parser F)
    (html : List ℕ) → IsMergedHtmlOf step p html → ReadsText s p → parser_callback p ≡ None
    → html ≡ merged_html_of_text s
merged_alone step s p html r reads none =
    r.merged ∙ ap (λ (es : List EventView). html_of (merged_events es))
    (events_alone step (parser_callback p) s r.events (read_by_rules step s p reads r.events r.left) none)
