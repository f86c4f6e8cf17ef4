-- Each event adds its link, if it begins one; and the events are those of the text.
use Rattle.std.proofs.Common.{◌≡◌, ◌∙◌, ℕ, List, [], ◌∷◌, ◌++◌, Option, Some, None, ap, append-nil, arith, length, map}
use Rattle.std.proofs.Common.{sym}
use Rattle.std.specs.Vec.Iter.{into_iter_items, into_iter_len}
use Rattle.std.specs.declared.ops.Range.{Range}
use Rattle.markdown.specs.EventWords.{Event}
use Rattle.markdown.specs.ReadingWords.{viewed}
use Rattle.markdown_callers.specs.LinkChecker.{link_target, targets_of}
use Rattle.markdown_callers.specs.declared.link_checker.FoundLink.{FoundLink}
use Rattle.markdown_callers.proofs.LinkCheckerLemmas.{links-more, none_left, one_less, taken-more}
use Rattle.markdown_callers.proofs.TextReadingLemmas.{are_events}
use Rattle.markdown_callers.proofs.link_checker.links.Goals as goal

pub loop-event-preserved-in-Continue-branch-3 : goal.loop-event-preserved-in-Continue-branch-3
loop-event-preserved-in-Continue-branch-3 c =
    let i = c.loop-event.invariant in
    record {
      found = ap (λ (links : List FoundLink). map link_target links) c.in_ok-push.ensures.items
          ∙ links-more c.loop-event.yielded (c.in-Some.event, c.in-Some.range) c.loop-event.links.items
          (Some c.in-Some-link_at.link)
          i.found c.in-Some-link_at.ensures;
      taken = taken-more c.loop-event.yielded (into_iter_items c.loop-event.event-iterator)
          (into_iter_items c.next.new.self)
          (into_iter_items c.into_iter-event-iterator.result) (c.in-Some.event, c.in-Some.range) i.taken
          c.in-Some.ensures.steps.0;
      left = one_less _ _ _ _ _ i.left c.in-Some.ensures.steps.0 c.in-Some.ensures.steps.1;
    }

pub loop-event-preserved : goal.loop-event-preserved
loop-event-preserved c =
    let i = c.loop-event.invariant in
    record {
      found = ap (λ (links : List FoundLink). map link_target links) (sym (append-nil c.loop-event.links.items))
          ∙ links-more c.loop-event.yielded (c.in-Some.event, c.in-Some.range) c.loop-event.links.items None i.found
          c.in_default.ensures;
      taken = taken-more c.loop-event.yielded (into_iter_items c.loop-event.event-iterator)
          (into_iter_items c.next.new.self)
          (into_iter_items c.into_iter-event-iterator.result) (c.in-Some.event, c.in-Some.range) i.taken
          c.in-Some.ensures.steps.0;
      left = one_less _ _ _ _ _ i.left c.in-Some.ensures.steps.0 c.in-Some.ensures.steps.1;
    }

pub returns-clause-links : goal.returns-clause-links
returns-clause-links c =
    let i = c.loop-event.invariant in
    let empty : into_iter_items c.loop-event.event-iterator ≡ [] = none_left _ (sym i.left ∙ c.in-None.ensures.steps.0)
    in
    let all : c.loop-event.yielded ≡ c.in_ok-events.events.items =
    sym (append-nil c.loop-event.yielded)
    ∙ ap (λ (left : List (Event × Range ℕ)). c.loop-event.yielded ++ left) (sym empty)
    ∙ i.taken
    ∙ c.into_iter-event-iterator.ensures.into_iter_gives.0 in
    i.found ∙ (ap (λ (es : List (Event × Range ℕ)). targets_of (viewed es)) all
    ∙ ap targets_of (are_events _ c.args.source.now c.in_ok-parser.parser c.into_offset_iter.result
    c.in_ok-events.events.items _ c.in_ok-parser.ensures.left c.in_ok-parser.ensures.callback
    c.into_offset_iter.ensures c.in_ok-events.ensures.all))
