-- All bytes of those looked at together are kept, or one of them is not.
use Rattle.std.proofs.Common.{◌+◌, sym, ◌∙◌, arith}
use Rattle.markdown_out.specs.Escapes.{is_kept_byte}
use Rattle.markdown_out.proofs.KeptLemmas.{all_further, not_all, all_of_last}
use Rattle.markdown_out.proofs.escape.are_kept.Goals as goal

pub kept-preserved : goal.kept-preserved
kept-preserved c =
    let within = c.kept.invariant.within in
    let start = c.kept.start in
    let further = all_further is_kept_byte c.args.bytes.now start (start + 16) (omega arith) c.kept.invariant.kept in
    record {
      within = omega (arith, within, c.kept-test.true);
      kept = sym further ∙ sym c.if-not-are_kept_together.ensures;
    }

pub returns-then-not-are_kept_together : goal.returns-then-not-are_kept_together
returns-then-not-are_kept_together c =
    let bytes = c.args.bytes.now in
    let start = c.kept.start in
    let further = all_further is_kept_byte bytes start (start + 16) (omega arith) c.kept.invariant.kept in
    sym (not_all is_kept_byte bytes (start + 16) (sym further ∙ sym c.if-not-are_kept_together.ensures))

pub returns : goal.returns
returns c =
    let within = c.kept.invariant.within in
    c.are_kept_together-2.ensures
    ∙ all_of_last is_kept_byte c.args.bytes.now c.kept.start 16 within (omega (arith, c.kept-test.false))
    c.kept.invariant.kept
