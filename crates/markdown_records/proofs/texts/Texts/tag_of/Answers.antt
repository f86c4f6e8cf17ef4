-- A tag is told by its kind.
use Rattle.std.proofs.Common.{◌∙◌, sym, arith}
use Rattle.markdown_base.specs.Event.{tag_view}
use Rattle.markdown_records.specs.GroupOf.{group_view}
use Rattle.markdown_records.proofs.ReadLemmas.{bare_tag, found_reads, list_tag}
use Rattle.markdown_records.proofs.texts.Texts.tag_of.Goals as goal

pub returns-in-6 : goal.returns-in-6
returns-in-6 c =
    let s = c.args.self.now.source.now in
    let p = c.args.self.now.pool.now in
    found_reads tag_view c.list_of.result (c.list_of.ensures s p
    ∙ sym (list_tag s p (group_view c.args.group.now) c.in-6.is))
    c.ok_or-in-6.ensures.value

pub returns-in_default : goal.returns-in_default
returns-in_default c =
    let s = c.args.self.now.source.now in
    let p = c.args.self.now.pool.now in
    found_reads tag_view c.bare_tag_of.result
    (c.bare_tag_of.ensures s p
    ∙ sym (bare_tag s p (group_view c.args.group.now) (omega arith) (omega arith) (omega arith) (omega arith)
    (omega arith)
    (omega arith) (omega arith)))
    c.ok_or-in_default.ensures.value
