-- Counts are at most their maximum, so that raising one by nothing keeps it.
use Rattle.std.proofs.Common.{◌∙◌, refl, arith}
use Rattle.markdown_document.proofs.CountLemmas.{risen_is}
use Rattle.markdown_document.proofs.work.Work.count_pairing.Goals as goal

pub returns : goal.returns
returns c =
    let s = c.args.self.now in
    rw (
      c.saturating_add-self.ensures ∙ risen_is c.args.delimiters s.delimiters (omega arith),
      c.saturating_add-self-2.ensures ∙ risen_is c.args.examined s.examined (omega arith),
    ) refl
