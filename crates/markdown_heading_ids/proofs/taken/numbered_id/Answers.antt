use Rattle.std.proofs.Common.{◌∙◌}
use Rattle.markdown_heading_ids.proofs.FreeIdLemmas.{numbered_is}
use Rattle.markdown_heading_ids.proofs.taken.numbered_id.Goals as goal

pub returns-clause-id : goal.returns-clause-id
returns-clause-id c =
    c.in_ok-format.ensures.ok ∙ numbered_is c.args.anchor.now c.args.number c.requires.not_plain
