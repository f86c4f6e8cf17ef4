-- The innermost of the blocks began a stretch, or none.
use Rattle.std.proofs.Common.{◌∙◌, sym, true, false}
use Rattle.markdown_plain.proofs.ContainersLemmas.{deep_starts_are, without_last}
use Rattle.markdown_plain.proofs.stretches.Stretches.leave.Goals as goal

pub returns-then-begins_stretch : goal.returns-then-begins_stretch
returns-then-begins_stretch c = λ before known. c.pop.ensures.rest
    ∙ without_last c.args.self.now.starts.items _ _ c.args.self.now.starts.len
    (before known ∙ deep_starts_are c.args.self.now.old_notes c.args.blocks.now true
    (sym c.begins_stretch.ensures ∙ c.if-begins_stretch.true)) c.args.self.now.starts.ok.0

pub returns-else-begins_stretch : goal.returns-else-begins_stretch
returns-else-begins_stretch c = λ before known.
    before known ∙ deep_starts_are c.args.self.now.old_notes c.args.blocks.now false
    (sym c.begins_stretch.ensures ∙ c.if-begins_stretch.false)
