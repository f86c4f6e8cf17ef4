use Rattle.std.proofs.Common.{◌+◌, ◌*◌, arith, sym}
use Rattle.markdown_scan.proofs.EntityLemmas.{number_of_more, small_more, small_fits}
use Rattle.markdown_scan.proofs.entity.number_of.Goals as goal

pub overflow_mul-number : goal.overflow_mul-number
overflow_mul-number c =
    let more = small_more c.args.radix c.loop-digit.number 0 c.loop-digit.digit-index c.requires.base
    (omega arith) c.loop-digit.invariant.small in
    let fits = small_fits (c.args.radix * c.loop-digit.number + 0) (c.loop-digit.digit-index + 1)
    (omega arith) more in
    omega (arith, fits)

pub overflow_add-number : goal.overflow_add-number
overflow_add-number c =
    let more = small_more c.args.radix c.loop-digit.number c.digit_value.result
    c.loop-digit.digit-index c.requires.base c.digit_value.ensures.bound
    c.loop-digit.invariant.small in
    let fits = small_fits (c.args.radix * c.loop-digit.number + c.digit_value.result)
    (c.loop-digit.digit-index + 1) (omega arith) more in
    omega (arith, fits)

pub loop-digit-preserved : goal.loop-digit-preserved
loop-digit-preserved c = record {
  value = rw (c.loop-digit.invariant.value, c.digit_value.ensures.value)
      (sym (number_of_more c.args.radix c.args.digits.now c.loop-digit.digit-index
      c.loop-digit-test.true));
  small = small_more c.args.radix c.loop-digit.number c.digit_value.result c.loop-digit.digit-index
      c.requires.base c.digit_value.ensures.bound c.loop-digit.invariant.small;
}
