use Rattle.std.proofs.Common.{◌<◌, ◌≤◌, length, arith}
use Rattle.markdown_raw_html.specs.HtmlTag.{white_space}
use Rattle.markdown_raw_html.proofs.HtmlTagLemmas.{IsWithin-white_space, nonempty_no, nonempty_yes}
use Rattle.markdown_raw_html.proofs.tag_grammar.take_some_white_space.Goals as goal

pub returns-then-rest-source : goal.returns-then-rest-source
returns-then-rest-source g c =
    let less : length c.take_white_space-rest.result.now < length c.args.source.now =
    omega arith in
    nonempty_yes (g.R.LineRule.skipped c.args.rule.now) white_space c.args.source.now
    c.take_white_space-rest.result.now IsWithin-white_space c.take_white_space-rest.ensures less

pub returns-else-rest-source : goal.returns-else-rest-source
returns-else-rest-source g c =
    let same : length c.args.source.now ≤ length c.take_white_space-rest.result.now =
    omega arith in
    nonempty_no (g.R.LineRule.skipped c.args.rule.now) white_space c.args.source.now
    c.take_white_space-rest.result.now IsWithin-white_space c.take_white_space-rest.ensures same
