-- The command has the three arguments more.
use Rattle.std.proofs.Common.{rules, ◌≡◌, ◌∙◌, Some, ap, ap₂, codes}
use Rattle.std.proofs.lemmas.Result.{IfOk-weaker}
use Rattle.clap.specs.Words.{AddsArg, app_of, rule_of, with_rule}
use Rattle.markdown_tool_command.specs.CommandLine.{flag, with_extension_rules}
use Rattle.markdown_tool_command.proofs.parse.with_extensions.Goals as goal

pub returns : goal.returns
returns c =
    let all : rule_of c.help.result ≡ record (flag (codes "all-extensions")) { short = Some 97 } = search rules in
    let gfm : rule_of c.help-2.result ≡ flag (codes "gfm") = search rules in
    let named = c.in_ok-named.ensures.shape c.extension.ensures.local
    ∙ ap (with_rule (app_of c.args.command)) c.extension.ensures.rule in
    let with_all = c.in_ok-with_all.ensures.shape (search rules) ∙ ap₂ with_rule named all in
    IfOk-weaker c.arg-3.result (λ made. AddsArg c.in_ok-with_all.with_all c.help-2.result made)
    (λ made. app_of made ≡ with_extension_rules (app_of c.args.command))
    (λ made adds. adds.shape (search rules) ∙ ap₂ with_rule with_all gfm) c.arg-3.ensures
