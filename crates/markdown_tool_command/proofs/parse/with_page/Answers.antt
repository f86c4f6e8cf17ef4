-- The command has the three arguments more.
use Rattle.std.proofs.Common.{rules, ◌≡◌, ◌∙◌, Some, ap₂, codes, refl}
use Rattle.std.proofs.lemmas.Result.{IfOk-weaker}
use Rattle.clap.specs.Words.{AddsArg, app_of, rule_of, with_rule}
use Rattle.markdown_tool_command.specs.CommandLine.{flag, valued, with_page_rules}
use Rattle.markdown_tool_command.proofs.parse.with_page.Goals as goal

pub returns : goal.returns
returns c =
    let page : rule_of c.help.result ≡ record (flag (codes "full-page")) { short = Some 102 } = search rules
    in
    let title : rule_of c.help-2.result ≡ valued (codes "title") = search rules in
    let css : rule_of c.help-3.result ≡ valued (codes "css") = search rules in
    let paged = c.in_ok-paged.ensures.shape (search rules) ∙ ap₂ with_rule refl page in
    let titled = c.in_ok-titled.ensures.shape (search rules) ∙ ap₂ with_rule paged title in
    IfOk-weaker c.arg-3.result (λ made. AddsArg c.in_ok-titled.titled c.help-3.result made)
    (λ made. app_of made ≡ with_page_rules (app_of c.args.command))
    (λ made adds. adds.shape (search rules) ∙ ap₂ with_rule titled css) c.arg-3.ensures
