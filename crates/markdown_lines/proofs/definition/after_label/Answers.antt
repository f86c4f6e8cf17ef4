-- A colon, white space, a destination, and what follows that.
use Rattle.std.proofs.Common.{◌≡◌, ◌∙◌, sym, arith, subst, List, ℕ, ◌+◌, ◌<◌, ◌^◌}
use Rattle.markdown_scan.specs.declared.entity.EntityNames.{EntityNames}
use Rattle.markdown_lines.specs.HeldLines.{AreHeldLines}
use Rattle.markdown_lines.specs.HeldPlaces.{IsPastColon}
use Rattle.markdown_lines.proofs.AfterLabelLemmas.{no_tail, no_target, nothing_after, tail_there, target_found}
use Rattle.markdown_lines.proofs.definition.after_label.Goals as goal

pub returns-in_err-start-clause-value : goal.returns-in_err-start-clause-value
returns-in_err-start-clause-value c =
    λ (names : EntityNames) (label : List ℕ) (fits : c.args.length + 1 < 2 ^ 64)
    (held : AreHeldLines c.args.text.now c.args.lines.now).
    let text = c.args.text.now in
    let lines = c.args.lines.now in
    let count : c.saturating_add.result ≡ c.args.length + 1 = omega (arith, fits, c.saturating_add.ensures) in
    let colon = subst (λ n. IsPastColon text lines n c.in_ok-after.after) count (c.in_ok-after.ensures held) in
    rw c.from_residual-in_err-start.ensures
    (nothing_after text lines names c.args.length label c.in_ok-after.after colon
    (c.in_err-start.ensures.value colon.place))

pub returns-in_err-destination-clause-value : goal.returns-in_err-destination-clause-value
returns-in_err-destination-clause-value c =
    λ (names : EntityNames) (label : List ℕ) (fits : c.args.length + 1 < 2 ^ 64)
    (held : AreHeldLines c.args.text.now c.args.lines.now).
    let text = c.args.text.now in
    let lines = c.args.lines.now in
    let count : c.saturating_add.result ≡ c.args.length + 1 = omega (arith, fits, c.saturating_add.ensures) in
    let colon = subst (λ n. IsPastColon text lines n c.in_ok-after.after) count (c.in_ok-after.ensures held) in
    let past = c.in_ok-start.ensures.value colon.place in
    rw c.from_residual-in_err-destination.ensures
    (no_target text lines names c.args.length label c.in_ok-after.after c.in_ok-start.start colon past
    (c.in_err-destination.ensures.value lines past.place))

pub returns-in_err-tail-clause-value : goal.returns-in_err-tail-clause-value
returns-in_err-tail-clause-value c =
    λ (names : EntityNames) (label : List ℕ) (fits : c.args.length + 1 < 2 ^ 64)
    (held : AreHeldLines c.args.text.now c.args.lines.now).
    let text = c.args.text.now in
    let lines = c.args.lines.now in
    let count : c.saturating_add.result ≡ c.args.length + 1 = omega (arith, fits, c.saturating_add.ensures) in
    let colon = subst (λ n. IsPastColon text lines n c.in_ok-after.after) count (c.in_ok-after.ensures held) in
    let past = c.in_ok-start.ensures.value colon.place in
    let found = c.in_ok-destination.ensures.value lines past.place in
    let ends = c.in_ok-destination.ensures.ends lines past.place in
    let target = target_found text lines names c.args.length label c.in_ok-destination.destination.now
    c.in_ok-after.after c.in_ok-start.start c.in_ok-destination.after colon past found ends.1 in
    rw c.from_residual-in_err-tail.ensures
    (no_tail text lines names label c.in_ok-destination.destination.now c.in_ok-destination.after
    (c.in_err-tail.ensures.value ends.0.place) ∙ sym target)

pub returns-clause-value : goal.returns-clause-value
returns-clause-value c =
    λ (names : EntityNames) (label : List ℕ) (fits : c.args.length + 1 < 2 ^ 64)
    (held : AreHeldLines c.args.text.now c.args.lines.now).
    let text = c.args.text.now in
    let lines = c.args.lines.now in
    let count : c.saturating_add.result ≡ c.args.length + 1 = omega (arith, fits, c.saturating_add.ensures) in
    let colon = subst (λ n. IsPastColon text lines n c.in_ok-after.after) count (c.in_ok-after.ensures held) in
    let past = c.in_ok-start.ensures.value colon.place in
    let found = c.in_ok-destination.ensures.value lines past.place in
    let ends = c.in_ok-destination.ensures.ends lines past.place in
    let target = target_found text lines names c.args.length label c.in_ok-destination.destination.now
    c.in_ok-after.after c.in_ok-start.start c.in_ok-destination.after colon past found ends.1 in
    let tail = c.in_ok-tail.ensures.ends ends.0 in
    tail_there text lines names label c.in_ok-destination.destination c.in_ok-destination.after c.in_ok-tail.tail
    (c.in_ok-tail.ensures.value ends.0.place) tail.order
    ∙ sym target

pub returns-clause-ends : goal.returns-clause-ends
returns-clause-ends c =
    λ (fits : c.args.length + 1 < 2 ^ 64)
    (held : AreHeldLines c.args.text.now c.args.lines.now).
    let text = c.args.text.now in
    let lines = c.args.lines.now in
    let count : c.saturating_add.result ≡ c.args.length + 1 = omega (arith, fits, c.saturating_add.ensures) in
    let colon = subst (λ n. IsPastColon text lines n c.in_ok-after.after) count (c.in_ok-after.ensures held) in
    let past = c.in_ok-start.ensures.value colon.place in
    let ends = c.in_ok-destination.ensures.ends lines past.place in
    let tail = c.in_ok-tail.ensures.ends ends.0 in
    record { ends = tail.ends; title = tail.title }
