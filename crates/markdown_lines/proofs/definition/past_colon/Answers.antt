-- A colon there, or another byte.
use Rattle.std.proofs.Common.{◌≡◌, ◌∙◌, sym, arith, Some}
use Rattle.std.proofs.lemmas.Option.{slice_get_within}
use Rattle.std.specs.List.{slice_get}
use Rattle.markdown_lines.specs.HeldLines.{AreHeldLines}
use Rattle.markdown_lines.proofs.AfterLabelLemmas.{byte_like, byte_unlike, colon_there, other_byte}
use Rattle.markdown_lines.proofs.definition.past_colon.Goals as goal

pub returns-then-ne : goal.returns-then-ne
returns-then-ne c =
    λ (held : AreHeldLines c.args.text.now c.args.lines.now).
    other_byte c.args.text.now c.args.lines.now c.args.count c.in_ok-colon.colon
    (λ (e : slice_get c.args.text.now c.in_ok-colon.colon.at ≡ Some 58).
    byte_unlike c.byte_at.result (sym c.ne.ensures ∙ c.if-ne.true) (c.byte_at.ensures ∙ e))
    (c.in_ok-colon.ensures c.args.text.now (omega arith) held) held

pub returns : goal.returns
returns c =
    λ (held : AreHeldLines c.args.text.now c.args.lines.now).
    let colon = sym c.byte_at.ensures ∙ byte_like c.byte_at.result (sym c.ne.ensures ∙ c.if-ne.false) in
    let within = slice_get_within c.args.text.now c.in_ok-colon.colon.at 58 colon in
    colon_there c.args.text.now c.args.lines.now c.args.count c.saturating_add.result c.in_ok-colon.colon c.utf8.text
    colon (omega (arith, c.saturating_add.ensures, within)) (c.in_ok-colon.ensures c.args.text.now (omega arith) held)
    held
