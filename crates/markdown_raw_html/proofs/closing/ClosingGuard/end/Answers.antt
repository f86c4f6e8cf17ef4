use Rattle.markdown_raw_html.proofs.RawHtmlLemmas.{none_past}
use Rattle.markdown_raw_html.proofs.closing.ClosingGuard.end.Goals as goal

pub returns-then-start-self-clause-value : goal.returns-then-start-self-clause-value
returns-then-start-self-clause-value c =
    none_past _ _ c.args.self.now.none_from c.args.start c.args.self.now.none c.if-start-self.true
