use Rattle.markdown_raw_html.proofs.RawHtmlLawsLemmas.{first_close}
use Rattle.markdown_raw_html.proofs.laws.raw_html_ends_at_its_first_close.Goals as goal

pub returns : goal.returns
returns c = first_close c.args.closing.now c.args.bytes.now
