-- What is written of an iterator that gives the events of a text with what is added, through the adapters that are
-- over it.
use Rattle.std.proofs.Common.{◌≡◌, ◌⊎◌, ℕ, List, [], Option, Some, Result, sym, subst}
use Rattle.std.specs.declared.ops.Range.{Range}
use Rattle.markdown_additions.specs.Additions.{AdditionsView, AreFirstAdded, added_events}
use Rattle.markdown_additions.specs.GivenEvents.{GivesEvents}
use Rattle.markdown_additions.specs.UnplacedItems.{placed_iter, unplaced_steps}
use Rattle.markdown_additions.specs.Written.{IsFaultOfWritingText, as_html, as_safe_html, headings_of_text}
use Rattle.markdown_additions.specs.Written.{written_of_text}
use Rattle.markdown_additions.specs.declared.unplaced.Unplaced.{Unplaced}
use Rattle.markdown_base.specs.Source.{Source}
use Rattle.markdown_base.specs.declared.event.Event.{Event}
use Rattle.markdown_base.specs.declared.fault.Fault.{Fault}
use Rattle.markdown_base.specs.declared.fault.Fault.TheVariants.{Memory}
use Rattle.markdown_out.specs.HtmlCorrect.{IsOwnFault, IsOwnFaultBy, IsRendered, IsRenderedBy}
use Rattle.markdown_out.specs.HtmlCorrect.{StopsAtError, StopsAtErrorBy}
use Rattle.markdown_out.specs.declared.html.rules.HtmlRules.{HtmlRules}
use Rattle.markdown_outline.specs.Outline.{EntryView}
use Rattle.markdown_outline.specs.OutlineRead.{IsOutlineOfAll, MeetsError}
use Rattle.markdown_safe.specs.SafeRules.{SafeRulesView, html_rules}
use Rattle.markdown_safe.specs.SafeSource.{new_reading, placed_reading, safe_reading, safe_steps}
use Rattle.markdown_safe.specs.declared.adapter.Safe.{Safe}
use Rattle.markdown_safe.specs.declared.adapter.SafeWithOffset.{SafeWithOffset}
use Rattle.markdown_additions.proofs.WrittenLemmas.{html_faults, html_written, safe_faults, safe_written}
use Rattle.markdown_additions.proofs.WrittenLemmas.{Safer, headings_read_safe, headings_stopped_safe}

abbrev Item : Type 0
Item = Result (Event × Range ℕ) Fault

module _ {S : Type 0} (steps : S → Option Item → S → Type 0) (view : AdditionsView) (s : Source) (events : S)
    (gives : GivesEvents steps events (added_events view s) (AreFirstAdded view s)) where
  -- it gives them by any name
  here : (x : S) → x ≡ events → GivesEvents steps x (added_events view s) (AreFirstAdded view s)
  here x is = subst (λ (y : S). GivesEvents steps y (added_events view s) (AreFirstAdded view s)) (sym is) gives

  -- without ranges
  module _ (u : Unplaced S) (bare : placed_iter u ≡ events) where
    pub html_of_new : (old new : List ℕ) → old ≡ [] → IsRendered (unplaced_steps steps placed_iter) u old new
        → new ≡ written_of_text as_html view s
    html_of_new old new empty r =
        html_written steps placed_iter (added_events view s) (AreFirstAdded view s) u old new empty
        (here (placed_iter u) bare) r

    pub html_faults_of_new : (old new : List ℕ) (fault : Fault)
        → StopsAtError (unplaced_steps steps placed_iter) u old new fault
        ⊎ IsOwnFault (unplaced_steps steps placed_iter) u old new fault
        → IsFaultOfWritingText as_html view s fault
    html_faults_of_new old new fault why =
        html_faults steps placed_iter (added_events view s) (AreFirstAdded view s) u old new fault
        (here (placed_iter u) bare) why

    -- and then made safe, and written by the form that the rules have
    module _ (rules : SafeRulesView) (n : Safe (Unplaced S)) (safe : safe_reading n ≡ new_reading u rules)
        (form : HtmlRules) (by : form ≡ html_rules rules) where
      abbrev SafeBare : Safe (Unplaced S) → Option (Result Event Fault) → Safe (Unplaced S) → Type 0
      SafeBare = safe_steps (unplaced_steps steps placed_iter)

      pub safe_html_of_new : (old new : List ℕ) → old ≡ [] → IsRenderedBy form SafeBare n old new
          → new ≡ written_of_text (as_safe_html rules) view s
      safe_html_of_new old new empty r =
          safe_written steps placed_iter (added_events view s) (AreFirstAdded view s) rules u n safe
          (here (placed_iter u) bare) old new empty
          (subst (λ (h : HtmlRules). IsRenderedBy h SafeBare n old new) by r)

      pub safe_faults_of_new : (old new : List ℕ) (fault : Fault)
          → StopsAtErrorBy form SafeBare n old new fault ⊎ IsOwnFaultBy form SafeBare n old new fault
          → IsFaultOfWritingText (as_safe_html rules) view s fault
      safe_faults_of_new old new fault why =
          safe_faults steps placed_iter (added_events view s) (AreFirstAdded view s) rules u n safe
          (here (placed_iter u) bare) old new fault
          (subst (λ (h : HtmlRules).
          StopsAtErrorBy h SafeBare n old new fault ⊎ IsOwnFaultBy h SafeBare n old new fault) by why)

  -- made safe with their ranges
  module _ (rules : SafeRulesView) (m : SafeWithOffset S) (safe : placed_reading m ≡ new_reading events rules) where
    pub headings_of_new : (entries : List EntryView) → IsOutlineOfAll (Safer steps) m entries
        → entries ≡ headings_of_text (Some rules) view s
    headings_of_new entries o =
        headings_read_safe steps events (added_events view s) (AreFirstAdded view s) rules m safe gives entries o

    pub headings_stopped_of_new : (fault : Fault) → MeetsError (Safer steps) m fault → fault ≡ Memory
    headings_stopped_of_new fault e =
        headings_stopped_safe steps events (added_events view s) (AreFirstAdded view s) rules m safe gives fault e
