-- At first nothing was found; each mark adds what closes it.
use Rattle.std.proofs.Common.{◌∙◌, refl}
use Rattle.std.specs.BTreeMap.{get}
use Rattle.std.specs.Cmp.{unsigned_tied}
use Rattle.std.specs.Ordering.{nat_cmp}
use Rattle.markdown_spans.proofs.SpanClosersLemmas.{fills_none, fills_one}
use Rattle.markdown_spans.proofs.span_closers.fill_ahead.Goals as goal

pub noted-init : goal.noted-init
noted-init c = fills_none c.args.noted.now.items c.clear.new.self.items
    (get nat_cmp c.clear-2.new.self) c.clear.ensures.items
    (λ key. rw c.clear-2.ensures.empty refl)

pub noted-preserved : goal.noted-preserved
noted-preserved c =
    fills_one c.args.noted.now.items c.pop.new.self.items c.in-Some.mark c.noted.ahead.items c.push.new.self.items
    (get nat_cmp c.noted.nearest) (get nat_cmp c.insert.new.self) c.copied-closer.result
    (rw c.in-Some.ensures.items at c.noted.invariant)
    (c.copied-closer.ensures ∙ c.get.ensures.value) c.in_ok-push.ensures.items
    (λ key. rw (unsigned_tied c.in-Some.mark.key key) at (c.in_ok-insert.ensures.updates.0 key))
