-- The parts of each attribute are written after those before it.
use Rattle.std.proofs.lemmas.List.Folds.{flat_map-map}
use Rattle.markdown_base.specs.Event.{attribute_view}
use Rattle.markdown_records.specs.Drafts.{attribute_parts}
use Rattle.markdown_records.proofs.WritesLemmas.{written_all, written_more, written_refused}
use Rattle.markdown_records.proofs.encode.Records.push_attributes.Goals as goal

pub loop-attribute-preserved : goal.loop-attribute-preserved
loop-attribute-preserved c =
    written_more c.attribute-item.result c.loop-attribute-test.true c.loop-attribute.invariant
    (rw (← c.attribute-item.is) c.in_ok-push_attribute.ensures)

pub returns-in_err-push_attribute : goal.returns-in_err-push_attribute
returns-in_err-push_attribute c =
    rw (flat_map-map attribute_parts attribute_view c.args.attributes.now)
    (written_refused c.attribute-item.result c.loop-attribute-test.true c.loop-attribute.invariant
    c.from_residual.ensures.1 (rw (← c.attribute-item.is) c.in_err-push_attribute.ensures))

pub returns : goal.returns
returns c =
    rw (flat_map-map attribute_parts attribute_view c.args.attributes.now)
    (written_all c.loop-attribute-test.false c.loop-attribute.invariant)
