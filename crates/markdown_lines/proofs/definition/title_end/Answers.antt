-- A title is read line by line.
use Rattle.std.proofs.Common.{◌∙◌, sym, arith, length, ◌≤◌, ℕ, List, [], subst}
use Rattle.std.proofs.Common.{◌-◌, drop}
use Rattle.std.proofs.lemmas.List.{length-drop, length-take}
use Rattle.std.proofs.lemmas.Option.{slice_get_past, slice_get_within}
use Rattle.markdown_lines.specs.HeldPlaces.{IsPlace}
use Rattle.markdown_lines.specs.HeldTitles.{TitleGoesOn}
use Rattle.markdown_lines.specs.declared.definition.TitleLine.TheVariants as line
use Rattle.markdown_lines.proofs.HeldLinesLemmas.{found_line, no_line}
use Rattle.markdown_lines.proofs.TitleLemmas.{no_byte, no_mark, reads_first, reads_next, title_breaks, title_closes}
use Rattle.markdown_lines.proofs.TitleLemmas.{title_unclosed}
use Rattle.markdown_lines.proofs.definition.title_end.Goals as goal

pub returns-in_err-byte_at : goal.returns-in_err-byte_at
returns-in_err-byte_at c =
    λ (place : IsPlace c.args.text.now c.args.lines.now c.args.spot).
    rw c.from_residual.ensures
    (no_byte c.args.text.now c.args.lines.now c.args.spot (sym c.byte_at.ensures ∙ c.in_err-byte_at.was) place)

pub returns-in_err-close : goal.returns-in_err-close
returns-in_err-close c =
    λ (place : IsPlace c.args.text.now c.args.lines.now c.args.spot).
    rw c.from_residual-in_err-close.ensures
    (no_mark c.args.text.now c.args.lines.now c.args.spot c.in_ok-byte_at.field-0
    (sym c.byte_at.ensures ∙ c.in_ok-byte_at.was) c.in_err-close.ensures place)

pub lines-init : goal.lines-init
lines-init c =
    λ (place : IsPlace c.args.text.now c.args.lines.now c.args.spot).
    let within = slice_get_within c.args.text.now c.args.spot.at c.in_ok-byte_at.field-0
    (sym c.byte_at.ensures ∙ c.in_ok-byte_at.was) in
    reads_first c.args.text.now c.args.lines.now c.args.spot c.in_ok-byte_at.field-0 c.in_ok-close.close
    c.saturating_add.result c.utf8.text (sym c.byte_at.ensures ∙ c.in_ok-byte_at.was) c.in_ok-close.ensures
    (omega (arith, c.saturating_add.ensures, within)) place

pub returns-in-Closes : goal.returns-in-Closes
returns-in-Closes c =
    λ (place : IsPlace c.args.text.now c.args.lines.now c.args.spot).
    let look = c.in-Some.ensures.lookup in
    let there = found_line c.args.lines.now c.lines.from.line c.in-Some.line.now (omega arith) look.1 in
    let says = subst (λ (xs : List ℕ). (more : List ℕ)
    → TitleGoesOn c.in_ok-close.close xs more (line.Closes c.in-Closes.before)) c.bytes_of.ensures
    c.in-Closes.ensures in
    let few = (says []).0 in
    title_closes c.args.text.now c.args.lines.now c.args.spot c.in_ok-close.close c.lines.from c.in-Some.line.now
    c.in-Closes.before c.saturating_add-in-Closes-2.result c.utf8.text there says
    (omega (
      arith,
      c.saturating_add-in-Closes.ensures,
      c.saturating_add-in-Closes-2.ensures,
      length-take (c.in-Some.line.now.stop - c.lines.from.at) (drop c.lines.from.at c.args.text.now),
      length-drop c.lines.from.at c.args.text.now,
    ))
    (c.lines.invariant place)

pub returns-in-Breaks : goal.returns-in-Breaks
returns-in-Breaks c =
    λ (place : IsPlace c.args.text.now c.args.lines.now c.args.spot).
    let look = c.in-Some.ensures.lookup in
    let there = found_line c.args.lines.now c.lines.from.line c.in-Some.line.now (omega arith) look.1 in
    let says = subst (λ (xs : List ℕ). (more : List ℕ) → TitleGoesOn c.in_ok-close.close xs more line.Breaks)
    c.bytes_of.ensures c.in-Breaks.ensures in
    title_breaks c.args.text.now c.args.lines.now c.args.spot c.in_ok-close.close c.lines.from c.in-Some.line.now
    there says (c.lines.invariant place)

pub returns-in_err-from-in-None : goal.returns-in_err-from-in-None
returns-in_err-from-in-None c =
    λ (place : IsPlace c.args.text.now c.args.lines.now c.args.spot).
    let look = c.in-Some.ensures.lookup in
    let there = found_line c.args.lines.now c.lines.from.line c.in-Some.line.now (omega arith) look.1 in
    let says = subst (λ (xs : List ℕ). (more : List ℕ) → TitleGoesOn c.in_ok-close.close xs more line.None)
    c.bytes_of.ensures c.in-None.ensures in
    rw c.from_residual-in_err-from-in-None.ensures
    (title_unclosed c.args.text.now c.args.lines.now c.args.spot c.in_ok-close.close c.lines.from c.in-Some.line.now
    there says c.in_err-from-in-None.ensures (c.lines.invariant place))

pub lines-preserved : goal.lines-preserved
lines-preserved c =
    λ (place : IsPlace c.args.text.now c.args.lines.now c.args.spot).
    let look = c.in-Some.ensures.lookup in
    let there = found_line c.args.lines.now c.lines.from.line c.in-Some.line.now (omega arith) look.1 in
    let says = subst (λ (xs : List ℕ). (more : List ℕ) → TitleGoesOn c.in_ok-close.close xs more line.None)
    c.bytes_of.ensures c.in-None.ensures in
    reads_next c.args.text.now c.args.lines.now c.args.spot c.in_ok-close.close c.lines.from c.in-Some.line.now
    c.in_ok-from-in-None.from there says c.in_ok-from-in-None.ensures (c.lines.invariant place)

pub returns : goal.returns
returns c =
    λ (place : IsPlace c.args.text.now c.args.lines.now c.args.spot).
    let look = c.in_default.ensures.lookup in
    let past : length c.args.lines.now ≤ c.lines.from.line = omega arith in
    absurd (no_line c.args.text.now c.args.lines.now c.lines.from
    (slice_get_past c.args.lines.now c.lines.from.line past) (c.lines.invariant place).place)
