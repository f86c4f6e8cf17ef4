-- A byte that is no neighbour of a bracket, an escaped one, or a backslash.
use Rattle.std.proofs.Common.{◌≡◌, ◌∙◌, false, sym, arith, inl, inr}
use Rattle.std.proofs.lemmas.List.{take_rest}
use Rattle.markdown_lines.proofs.HeldLabelsLemmas.{ends_alone, leaves_escaped, leaves_plain, opens_another}
use Rattle.markdown_lines.proofs.definition.may_define.Goals.{then-byte-eq93, else-byte-eq93}
use Rattle.markdown_lines.proofs.definition.may_define.Goals.{then-byte-lt91-via-then-byte-lt91}
use Rattle.markdown_lines.proofs.definition.may_define.Goals.{then-byte-lt91-via-else-byte-lt91+then-byte-gt93}
use Rattle.markdown_lines.proofs.definition.may_define.Goals.{else-not-escaped-via-then-not-escaped+else-byte-ne92}
use Rattle.markdown_lines.proofs.definition.may_define.Goals.{else-not-escaped-via-else-not-escaped}
use Rattle.markdown_lines.proofs.definition.may_define.Goals as goal

pub loop-at-preserved-then-byte-lt91 : goal.loop-at-preserved-then-byte-lt91
loop-at-preserved-then-byte-lt91 c =
    leaves_plain c.args.content.now c.loop-at.at c.loop-at.escaped (omega (arith, c.loop-at-test.true))
    c.loop-at.invariant
    (elim c.then-byte-lt91.branch [
      | then-byte-lt91-via-then-byte-lt91 w ↦ inl w.if-byte-lt91.true
      | then-byte-lt91-via-else-byte-lt91+then-byte-gt93 w ↦ inr w.if-byte-gt93.true
    ])

pub loop-at-preserved : goal.loop-at-preserved
loop-at-preserved c =
    leaves_escaped c.args.content.now c.loop-at.at c.loop-at.escaped (omega (arith, c.loop-at-test.true))
    c.loop-at.invariant
    (elim c.else-not-escaped.branch [
      | else-not-escaped-via-then-not-escaped+else-byte-ne92 w ↦ inr (w.if-not-escaped.true, w.if-byte-ne92.false)
      | else-not-escaped-via-else-not-escaped w ↦ inl w.if-not-escaped.false
    ])

pub returns-then-byte-ne92 : goal.returns-then-byte-ne92
returns-then-byte-ne92 c =
    elim c.if-byte-eq93.branch [
      | then-byte-eq93 w ↦ λ (no : c.if-byte-eq93.result ≡ false).
          let alone = rw take_rest at w.starts_with.ensures.value in
          ends_alone c.args.content.now c.loop-at.at c.loop-at.escaped (omega (arith, c.loop-at-test.true))
          c.loop-at.invariant c.if-not-escaped.true w.if-byte-eq93.true
          (sym alone ∙ (sym w.result-is ∙ no))
      | else-byte-eq93 w ↦ λ (no : c.if-byte-eq93.result ≡ false).
          opens_another c.args.content.now c.loop-at.at c.loop-at.escaped (omega (arith, c.loop-at-test.true))
          c.loop-at.invariant c.if-not-escaped.true (omega (arith, w.if-byte-eq93.false))
    ]
