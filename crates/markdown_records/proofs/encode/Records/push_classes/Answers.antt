-- Each class is written after those before it.
use Rattle.std.proofs.lemmas.List.Folds.{flat_map-map}
use Rattle.markdown_base.specs.CowText.{text_of}
use Rattle.markdown_records.specs.Drafts.{class_parts}
use Rattle.markdown_records.proofs.WritesLemmas.{written_all, written_more, written_refused}
use Rattle.markdown_records.proofs.encode.Records.push_classes.Goals as goal

pub loop-class-preserved : goal.loop-class-preserved
loop-class-preserved c =
    written_more c.class-item.result c.loop-class-test.true c.loop-class.invariant
    (rw (← c.class-item.is) (rw (c.part.ensures, c.as_str.ensures) at c.in_ok-push.ensures))

pub returns-in_err-push : goal.returns-in_err-push
returns-in_err-push c =
    rw (flat_map-map class_parts text_of c.args.classes.now)
    (written_refused c.class-item.result c.loop-class-test.true c.loop-class.invariant c.from_residual.ensures.1
    (rw (← c.class-item.is) (rw (c.part.ensures, c.as_str.ensures) at c.in_err-push.ensures)))

pub returns : goal.returns
returns c =
    rw (flat_map-map class_parts text_of c.args.classes.now)
    (written_all c.loop-class-test.false c.loop-class.invariant)
