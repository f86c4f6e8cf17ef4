-- The thematic break is put there whole.
use Rattle.std.proofs.lemmas.Result.{IfOk-weaker}
use Rattle.markdown_plain.proofs.LinedLeavesLemmas.{break_placed}
use Rattle.markdown_plain.proofs.pass.Pass.add_thematic_break.Goals as goal

pub returns-clause-leaf : goal.returns-clause-leaf
returns-clause-leaf c =
    IfOk-weaker c.add_rule.result _ _ (λ done adds s frames inside b built syntax kind start last.
    break_placed s c.args.self.now.placing.builder c.add_rule.new.self.builder frames inside b built (rw last adds) kind
    start) c.add_rule.ensures.appends
