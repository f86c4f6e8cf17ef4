-- What is written of an iterator over records that has all events of a text left.
use Rattle.std.proofs.Common.{◌≡◌, ◌⊎◌, ◌∷◌, ◌++◌, ℕ, List, [], map, Ok, Err, Result, Some, ap, sym, subst, ◌∙◌}
use Rattle.std.proofs.Common.{inl, inr}
use Rattle.std.specs.Iterator.{Yields}
use Rattle.markdown_base.specs.Event.{event_view}
use Rattle.markdown_base.specs.declared.event.Event.{Event}
use Rattle.markdown_base.specs.declared.fault.Fault.{Fault}
use Rattle.markdown_base.specs.declared.fault.Fault.TheVariants.{Blocks, Depth, Memory}
use Rattle.markdown_out.specs.EventHtml.{html_by}
use Rattle.markdown_out.specs.HtmlCorrect.{GoesTooDeep, GoesTooDeepBy, IsOwnFault, IsOwnFaultBy, IsRenderedBy}
use Rattle.markdown_out.specs.HtmlCorrect.{StopsAtError, StopsAtErrorBy, items}
use Rattle.markdown_out.specs.LookBacks.{IsTooDeep}
use Rattle.markdown_records.specs.Decoded.{decoded}
use Rattle.markdown_records.specs.RecordEntry.{Contents}
use Rattle.markdown_records.specs.RecordEventsLaws.{ReturnsEventsLeft}
use Rattle.markdown_records.specs.RecordsLeft.{event_steps, events_left}
use Rattle.markdown_records.specs.SaidBy.{events_among}
use Rattle.markdown_records.specs.declared.fault.RecordFault.TheVariants.{Of}
use Rattle.markdown_records.specs.declared.record_events.RecordEvents.{RecordEvents}
use Rattle.markdown_safe.specs.SafeEvents.{safe_events, safe_html_of}
use Rattle.markdown_safe.specs.SafeItems.{IsSafeItem, SafeReading}
use Rattle.markdown_safe.specs.SafeRules.{SafeRulesView, html_rules}
use Rattle.markdown_safe.specs.SafeSource.{new_reading, safe_reading, safe_steps}
use Rattle.markdown_safe.specs.declared.adapter.Safe.{Safe}
use Rattle.markdown_safe.proofs.SafeEventsByRulesLemmas.{html_is_safe}
use Rattle.markdown_safe.proofs.SafeItemsLemmas.{AreAllSafe, AreFirstSafe, all_safe, first_safe}
use Rattle.markdown_text_records.specs.RecordsHtml.{ReadsTooDeep, IsFaultOf, IsSafeHtmlOfRecords}

-- an iterator over the records of a text, of which nothing has been read
pub record BeginsRecords (source bytes : List ℕ) (m : RecordEvents) : Type 0 where
  pub contents : Contents
  pub said : decoded source bytes ≡ Some contents
  pub left : events_left m ≡ events_among contents.entries
  pub gives : ReturnsEventsLeft m

module _ {source bytes : List ℕ} {m : RecordEvents} (b : BeginsRecords source bytes m) where
  deep : (old new : List ℕ) → GoesTooDeep event_steps m old new → ReadsTooDeep (λ events. events) source bytes
  deep old new d = record {
    contents = b.contents;
    said = b.said;
    first = map event_view d.events;
    others = events_left d.left;
    begin = sym b.left ∙ b.gives.first d.events d.left d.read;
    deep = d.deep;
  }

  own_fault : (old new : List ℕ) (fault : Fault) → IsOwnFault event_steps m old new fault
      → IsFaultOf (λ events. events) source bytes (Of fault)
  own_fault old new Memory own = tt
  own_fault old new Depth own = deep old new own
  own_fault old new Blocks own = absurd own

  pub html_faults : (old new : List ℕ) (fault : Fault)
      → StopsAtError event_steps m old new fault ⊎ IsOwnFault event_steps m old new fault
      → IsFaultOf (λ events. events) source bytes (Of fault)
  html_faults old new fault (inl stop) = rw (b.gives.error stop.events stop.left fault stop.read).0 tt
  html_faults old new fault (inr own) = own_fault old new fault own

-- ---- made safe

-- an item that is an error is one of memory
memory_safe : (m t : Safe RecordEvents) (given : List Event) (fault : Fault)
    → Yields (safe_steps event_steps) m (items given ++ Err fault ∷ []) t → fault ≡ Memory
memory_safe m t [] fault (j, h, y) = by_item h.1.0 h.1.1 h.1.2
  where
    by_item : (item : Result Event Fault)
        → event_steps (safe_reading m).source (Some item) (safe_reading j).source
        → IsSafeItem (safe_reading m).rules (safe_reading m).past item (Err fault) (safe_reading j).past
        → fault ≡ Memory
    by_item (Ok e) step made = made
    by_item (Err other) step made =
        let same : fault ≡ other = cc made in same ∙ step.0
memory_safe m t (e ∷ given) fault (j, h, y) = memory_safe j t given fault y

-- an iterator over records, of which nothing has been read, made safe by rules
module _ {source bytes : List ℕ} {m : RecordEvents} (begins : BeginsRecords source bytes m) (rules : SafeRulesView)
    (n : Safe RecordEvents) (new_one : safe_reading n ≡ new_reading m rules) where
  pub safe_html_written : (old new : List ℕ) → old ≡ []
      → IsRenderedBy (html_rules rules) (safe_steps event_steps) n old new → IsSafeHtmlOfRecords rules source bytes new
  safe_html_written old new empty r =
      let a = subst (λ (x : SafeReading RecordEvents). AreAllSafe event_steps safe_reading x r.events) new_one
      (all_safe event_steps safe_reading n r.events r.read) in
      let is : new ≡ safe_html_of rules (events_among begins.contents.entries) =
      r.stands ∙ ap (λ bytes. bytes ++ html_by (html_rules rules) (map event_view r.events)) empty
      ∙ ap (html_by (html_rules rules)) (a.2 ∙ ap (safe_events rules) (begins.gives.all a.0 a.1 ∙ begins.left)) in
      record {
        contents = begins.contents;
        said = begins.said;
        is = is;
        safe = rw is (html_is_safe rules (html_rules rules) (events_among begins.contents.entries));
      }

  safe_deep : (old new : List ℕ) → GoesTooDeepBy (html_rules rules) (safe_steps event_steps) n old new
      → ReadsTooDeep (safe_events rules) source bytes
  safe_deep old new d =
      let left = (safe_reading d.left).source in
      let a = subst (λ (x : SafeReading RecordEvents). AreFirstSafe event_steps safe_reading x left d.events) new_one
      (first_safe event_steps safe_reading n d.left d.events d.read) in
      record {
        contents = begins.contents;
        said = begins.said;
        first = map event_view a.0;
        others = events_left left;
        begin = sym begins.left ∙ begins.gives.first a.0 left a.1;
        deep = subst IsTooDeep a.2 d.deep;
      }

  own_safe : (old new : List ℕ) (fault : Fault)
      → IsOwnFaultBy (html_rules rules) (safe_steps event_steps) n old new fault
      → IsFaultOf (safe_events rules) source bytes (Of fault)
  own_safe old new Memory own = tt
  own_safe old new Depth own = safe_deep old new own
  own_safe old new Blocks own = absurd own

  pub safe_html_faults : (old new : List ℕ) (fault : Fault)
      → StopsAtErrorBy (html_rules rules) (safe_steps event_steps) n old new fault
      ⊎ IsOwnFaultBy (html_rules rules) (safe_steps event_steps) n old new fault
      → IsFaultOf (safe_events rules) source bytes (Of fault)
  safe_html_faults old new fault (inl stop) = rw (memory_safe n stop.left stop.events fault stop.read) tt
  safe_html_faults old new fault (inr own) = own_safe old new fault own
