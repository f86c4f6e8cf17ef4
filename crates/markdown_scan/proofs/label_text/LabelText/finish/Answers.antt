use Rattle.markdown_scan.proofs.LabelTextLemmas.{borrowed_if_same}
use Rattle.markdown_base.specs.CowText.{text_of}
use Rattle.markdown_base.specs.StoredTexts.{IsBorrowed}
use Rattle.markdown_scan.proofs.label_text.LabelText.finish.Goals as goal

pub returns-clause-borrowed : goal.returns-clause-borrowed
returns-clause-borrowed c =
    borrowed_if_same c.args.self.own c.range-same.result.now c.args.self.source.now (text_of c.own_or.result)
    (IsBorrowed c.own_or.result)
    c.args.self.differs c.own_or.ensures.borrowed c.own_or.ensures.text
