use Rattle.std.proofs.Common.{◌==◌, not}
use Rattle.std.specs.Option.{option_copied}
use Rattle.markdown_raw_html.specs.HtmlTag.{all, both, byte}
use Rattle.markdown_raw_html.proofs.TagTextLemmas.{both_some}
use Rattle.markdown_raw_html.proofs.tag_parts.take_quoted_value.Goals as goal

pub returns : goal.returns
returns g c =
    both_some (g.R.LineRule.skipped c.args.rule.now) (byte c.args.mark)
    (both (all (λ b. not (b == c.args.mark))) (byte c.args.mark)) c.args.source.now
    c.in_ok-inside.inside.now (option_copied c.take_to_mark.result) c.in_ok-inside.ensures
    c.take_to_mark.ensures
