use Rattle.markdown_raw_html.proofs.RawHtmlLawsLemmas.{tag_between}
use Rattle.markdown_raw_html.proofs.laws.tag_stands_in_angle_brackets.Goals as goal

pub returns : goal.returns
returns c = tag_between c.args.bytes.now
