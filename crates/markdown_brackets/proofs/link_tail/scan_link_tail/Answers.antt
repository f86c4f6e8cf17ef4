use Rattle.std.proofs.Common.{◌<◌, get_or, arith, sym, subst, Option, None, ◌∙◌}
use Rattle.std.proofs.lemmas.Str.{IsCharBoundary-after_ascii}
use Rattle.markdown_brackets.specs.LinkTail as tail
use Rattle.markdown_brackets.specs.LinkTailView.{BorrowsTail, ReadsTail}
use Rattle.markdown_brackets.proofs.LinkTailLemmas.{tail_closed, tail_open, tail_reads, tail_closes}
use Rattle.markdown_brackets.proofs.link_tail.scan_link_tail.Goals as goal

pub past_separator-start-requires : goal.past_separator-start-requires
past_separator-start-requires g c =
    let here = c.stands_at.ensures.here c.if-not-stands_at.false in
    let ascii : get_or c.args.text.now c.args.at 0 < 128 = omega (arith, here.1) in
    IsCharBoundary-after_ascii c.args.text.now c.args.at c.utf8.text here.0 ascii

pub returns-then-not-stands_at : goal.returns-then-not-stands_at
returns-then-not-stands_at g c =
    let none = tail_closed (g.R.LineRule.skipped c.args.rules.now.rule.now) (g.I.ItemsAfter.starts c.args.items.now)
    c.args.text.now c.args.at
    (sym c.stands_at.ensures.value ∙ c.if-not-stands_at.true) in
    record {
      value = subst
          (λ (t : Option tail.LinkTail). ReadsTail c.args.rules.now.names c.args.rules.now.in_table t None)
          (sym none) tt;
      borrowed = subst (λ (t : Option tail.LinkTail). BorrowsTail t None) (sym none) tt;
    }

pub returns-then-not-stands_at-2 : goal.returns-then-not-stands_at-2
returns-then-not-stands_at-2 g c =
    let start = c.past_separator-start.ensures.value in
    let next = c.past_separator-next.ensures.value in
    let none = tail_open _ _ _ _ _ _ _ _ _ _
    (tail_closes c.args.rules.now.names c.args.rules.now.in_table (g.R.LineRule.skipped c.args.rules.now.rule.now)
    (g.I.ItemsAfter.starts c.args.items.now) c.args.text.now c.args.at c.in_ok-close.close c.in-Some.written.now
    c.in_ok-close.title c.in-Some.length (sym c.stands_at.ensures.value ∙ c.if-not-stands_at.false)
    (rw start at (sym c.in-Some.ensures.value)) (rw start at (rw next at c.in_ok-close.ensures.value)))
    (sym c.stands_at-2.ensures.value ∙ c.if-not-stands_at-2.true) in
    record {
      value = subst
          (λ (t : Option tail.LinkTail). ReadsTail c.args.rules.now.names c.args.rules.now.in_table t None)
          (sym none) tt;
      borrowed = subst (λ (t : Option tail.LinkTail). BorrowsTail t None) (sym none) tt;
    }

pub returns : goal.returns
returns g c =
    let start = c.past_separator-start.ensures.value in
    let next = c.past_separator-next.ensures.value in
    let there = tail_reads _ _ _ _ _ _ _ _ _ c.in_ok-destination.destination
    (sym c.stands_at-2.ensures.value ∙ c.if-not-stands_at-2.false) c.in_ok-destination.ensures.value
    c.in_ok-destination.ensures.borrowed _
    (tail_closes c.args.rules.now.names c.args.rules.now.in_table (g.R.LineRule.skipped c.args.rules.now.rule.now)
    (g.I.ItemsAfter.starts c.args.items.now) c.args.text.now c.args.at c.in_ok-close.close c.in-Some.written.now
    c.in_ok-close.title c.in-Some.length (sym c.stands_at.ensures.value ∙ c.if-not-stands_at.false)
    (rw start at (sym c.in-Some.ensures.value)) (rw start at (rw next at c.in_ok-close.ensures.value))) in
    record { value = there.reads; borrowed = there.borrows }
