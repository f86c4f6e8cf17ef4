-- An event without a text is none of those with one.
use Rattle.std.proofs.Common.{◌∙◌, sym, arith}
use Rattle.markdown_records.specs.GroupOf.{group_view}
use Rattle.markdown_records.proofs.ReadLemmas.{bare_leaf}
use Rattle.markdown_records.proofs.texts.Texts.leaf_of.Goals as goal

pub returns-in_default : goal.returns-in_default
returns-in_default c =
    c.bare_leaf_of.ensures c.args.self.now.source.now c.args.self.now.pool.now
    ∙ sym (bare_leaf c.args.self.now.source.now c.args.self.now.pool.now (group_view c.args.group.now) (omega arith)
    (omega arith)
    (omega arith) (omega arith) (omega arith) (omega arith) (omega arith))
