-- An event is told by its kind.
use Rattle.std.proofs.Common.{◌∙◌, sym}
use Rattle.markdown_base.specs.Event.{event_view}
use Rattle.markdown_records.specs.GroupOf.{group_view}
use Rattle.markdown_records.proofs.ReadLemmas.{found_reads, leaf_event}
use Rattle.markdown_records.proofs.texts.Texts.event_of.Goals as goal

pub returns-then-group-lt-END : goal.returns-then-group-lt-END
returns-then-group-lt-END c =
    found_reads event_view c.leaf_of.result
    (c.leaf_of.ensures
    ∙ sym (leaf_event c.args.self.now.source.now c.args.self.now.pool.now (group_view c.args.group.now)
    c.if-group-lt-TEXT.false c.if-group-lt-END.true))
    c.ok_or.ensures.value
