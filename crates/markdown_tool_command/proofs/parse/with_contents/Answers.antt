-- The command has the two arguments more.
use Rattle.std.proofs.Common.{rules, ◌≡◌, ◌∙◌, ap₂, codes, refl}
use Rattle.std.proofs.lemmas.Result.{IfOk-weaker}
use Rattle.clap.specs.Words.{AddsArg, app_of, rule_of, with_rule}
use Rattle.markdown_tool_command.specs.CommandLine.{flag, valued, with_contents_rules}
use Rattle.markdown_tool_command.proofs.parse.with_contents.Goals as goal

pub returns : goal.returns
returns c =
    let lang : rule_of c.help.result ≡ valued (codes "lang") = search rules in
    let toc : rule_of c.help-2.result ≡ flag (codes "toc") = search rules in
    let with_lang = c.in_ok-with_lang.ensures.shape (search rules) ∙ ap₂ with_rule refl lang in
    IfOk-weaker c.arg-2.result (λ made. AddsArg c.in_ok-with_lang.with_lang c.help-2.result made)
    (λ made. app_of made ≡ with_contents_rules (app_of c.args.command))
    (λ made adds. adds.shape (search rules) ∙ ap₂ with_rule with_lang toc) c.arg-2.ensures
