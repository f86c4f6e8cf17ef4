-- What was taken is the prefix, which is ASCII bytes of the line's beginning.
use Rattle.std.proofs.Common.{arith, drop, sym, ◌∙◌, ap}
use Rattle.markdown_scan.specs.LineStart.{LineLeft}
use Rattle.markdown_scan.specs.LineView.{line_left}
use Rattle.markdown_spans.specs.PrefixView.{bodies_of, length_by}
use Rattle.markdown_spans.proofs.ContainerPrefixLemmas.{length_by_is_ascii, reading_ends, reading_ends_with_line}
use Rattle.markdown_spans.proofs.ContainerPrefixLemmas.{reading_stops}
use Rattle.markdown_spans.proofs.prefixes.ContainerPrefix.length_of.Goals as goal

pub returns-then-is_at_eol-clause-value : goal.returns-then-is_at_eol-clause-value
unfolding length_by
returns-then-is_at_eol-clause-value c =
    let prefix = c.args.self.now in
    let ends = reading_ends_with_line prefix.gfm_footnotes
    (bodies_of (drop c.containers.container-index prefix.containers.now)) (line_left c.containers.line)
    (sym c.is_at_eol.ensures ∙ c.if-is_at_eol.true) in
    c.bytes_scanned-scanned.ensures ∙ sym (ap (λ (left : LineLeft). left.scanned) c.containers.invariant ∙ ends)

pub returns-then-not-take_part-clause-value : goal.returns-then-not-take_part-clause-value
unfolding length_by
returns-then-not-take_part-clause-value c =
    let prefix = c.args.self.now in
    let stops = reading_stops prefix.gfm_footnotes prefix.containers.now c.containers.container-index
    (line_left c.containers.line) _ c.containers-test.true c.if-not-take_part.ensures.part in
    c.bytes_scanned-scanned.ensures ∙ ap (λ (left : LineLeft). left.scanned) (sym (c.containers.invariant ∙ stops))

pub returns-clause-value : goal.returns-clause-value
unfolding length_by
returns-clause-value c =
    let prefix = c.args.self.now in
    let ends = reading_ends prefix.gfm_footnotes prefix.containers.now c.containers.container-index
    (line_left c.containers.line) (omega (arith, c.containers-test.false)) in
    c.bytes_scanned.ensures ∙ ap (λ (left : LineLeft). left.scanned) (sym (c.containers.invariant ∙ ends))

pub returns-then-is_at_eol-clause-within : goal.returns-then-is_at_eol-clause-within
returns-then-is_at_eol-clause-within c =
    rw (returns-then-is_at_eol-clause-value c) (length_by_is_ascii c.args.self.now c.args.rest.now).within

pub returns-then-is_at_eol-clause-ascii : goal.returns-then-is_at_eol-clause-ascii
returns-then-is_at_eol-clause-ascii c =
    rw (returns-then-is_at_eol-clause-value c) (length_by_is_ascii c.args.self.now c.args.rest.now).ascii

pub returns-then-not-take_part-clause-within : goal.returns-then-not-take_part-clause-within
returns-then-not-take_part-clause-within c =
    rw (returns-then-not-take_part-clause-value c) (length_by_is_ascii c.args.self.now c.args.rest.now).within

pub returns-then-not-take_part-clause-ascii : goal.returns-then-not-take_part-clause-ascii
returns-then-not-take_part-clause-ascii c =
    rw (returns-then-not-take_part-clause-value c) (length_by_is_ascii c.args.self.now c.args.rest.now).ascii

pub returns-clause-within : goal.returns-clause-within
returns-clause-within c = rw (returns-clause-value c) (length_by_is_ascii c.args.self.now c.args.rest.now).within

pub returns-clause-ascii : goal.returns-clause-ascii
returns-clause-ascii c = rw (returns-clause-value c) (length_by_is_ascii c.args.self.now c.args.rest.now).ascii
