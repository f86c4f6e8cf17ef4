use Rattle.std.proofs.Common.{◌≤◌, arith, sym, ap, ◌∙◌}
use Rattle.std.proofs.lemmas.Bool.Decides.{nat_tests}
use Rattle.std.proofs.lemmas.List.{take_rest}
use Rattle.markdown_scan.specs.Entity.{character_of}
use Rattle.markdown_scan.proofs.EntityLemmas.{numbered_is}
use Rattle.markdown_scan.proofs.entity.scan_numeric_reference.Goals as goal

pub returns-clause-value : goal.returns-clause-value
returns-clause-value c =
    let bytes = c.args.bytes.now in
    let some : 1 ≤ c.count_digits-count.result = grind (arith, nat_tests) in
    let few : c.count_digits-count.result ≤ c.args.most = omega arith in
    numbered_is c.args.start c.args.radix c.args.most c.count_digits-count.result
    c.character_of.result bytes (rw take_rest at c.count_digits-count.ensures) some few
    (rw take_rest at (sym c.starts_with.ensures.value ∙ c.if-not-starts_with.false))
    (c.character_of.ensures ∙ ap character_of (rw take_rest at c.number_of.ensures))
