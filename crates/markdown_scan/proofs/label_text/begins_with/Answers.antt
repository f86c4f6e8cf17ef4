use Rattle.std.proofs.Common.{◌≢◌, arith}
use Rattle.markdown_scan.proofs.LabelTextLemmas.{begins_with_one, empty_begins_with_none}
use Rattle.markdown_scan.proofs.label_text.begins_with.Goals as goal

pub returns-in-Some-clause-no : goal.returns-in-Some-clause-no
returns-in-Some-clause-no c differ =
    let other : c.in-Some.first ≢ c.args.c = grind (arith, differ) in
    begins_with_one c.args.text.now c.in-Some.field-0-1.now c.in-Some.first c.args.c c.in-Some.ensures other

pub returns-in-None-clause-no : goal.returns-in-None-clause-no
returns-in-None-clause-no c _ = empty_begins_with_none c.args.text.now c.args.c c.in-None.ensures
