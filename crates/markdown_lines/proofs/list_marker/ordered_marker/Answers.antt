-- The marker is that of the bytes.
use Rattle.std.proofs.Common.{◌≡◌, true, take, sym, ◌∙◌, ap, subst, arith}
use Rattle.std.specs.Char.{is_ascii_digit}
use Rattle.std.specs.List.{list_all}
use Rattle.markdown_lines.proofs.ListMarkersLemmas.{front_passes, ordered_is}
use Rattle.markdown_lines.proofs.list_marker.ordered_marker.Goals as goal

pub returns-clause-value : goal.returns-clause-value
returns-clause-value c =
    let bytes = c.args.bytes.now in
    let counted = c.digit_count-count.ensures.value in
    let front = c.split_at.ensures.front in
    let digits : list_all is_ascii_digit c.split_at.result.0.now ≡ true =
    subst (λ ds. list_all is_ascii_digit ds ≡ true) (sym (front ∙ ap (λ n. take n c.args.bytes.now) counted))
    (front_passes is_ascii_digit c.args.bytes.now) in
    ordered_is c.args.bytes.now c.split_at.result.0.now c.split_at.result.1.now c.digit_count-count.result
    c.in-Some.character.now c.number_of.result counted front c.split_at.ensures.back c.in-Some.ensures.value
    (omega arith) (omega arith) (sym c.ends_number.ensures ∙ c.if-not-ends_number.false)
    (c.number_of.ensures (omega (arith, c.split_at.ensures.front_len)) digits)
