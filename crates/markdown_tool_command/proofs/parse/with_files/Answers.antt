-- The command has the four arguments more.
use Rattle.std.proofs.Common.{rules, ◌≡◌, ◌∙◌, ap₂, codes, refl}
use Rattle.std.proofs.lemmas.Result.{IfOk-weaker}
use Rattle.clap.specs.Words.{AddsArg, app_of, rule_of, with_rule}
use Rattle.markdown_tool_command.specs.CommandLine.{flag, valued, with_file_rules}
use Rattle.markdown_tool_command.proofs.parse.with_files.Goals as goal

pub returns : goal.returns
returns c =
    let lossy : rule_of c.help.result ≡ flag (codes "lossy") = search rules in
    let limit : rule_of c.help-2.result ≡ valued (codes "limit") = search rules in
    let with_lossy = c.in_ok-with_lossy.ensures.shape (search rules) ∙ ap₂ with_rule refl lossy in
    let with_limit = c.in_ok-with_limit.ensures.shape (search rules) ∙ ap₂ with_rule with_lossy limit in
    let with_output = c.in_ok-arg.ensures.shape c.output.ensures.local
    ∙ ap₂ with_rule with_limit c.output.ensures.rule in
    IfOk-weaker c.arg-4.result (λ made. AddsArg c.in_ok-arg.field-0 c.file.result made)
    (λ made. app_of made ≡ with_file_rules (app_of c.args.command))
    (λ made adds. adds.shape c.file.ensures.local ∙ ap₂ with_rule with_output c.file.ensures.rule) c.arg-4.ensures
