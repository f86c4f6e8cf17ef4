-- The command has the three arguments more.
use Rattle.std.proofs.Common.{rules, ◌≡◌, ◌∙◌, ap₂, codes, refl}
use Rattle.std.proofs.lemmas.Result.{IfOk-weaker}
use Rattle.clap.specs.Words.{AddsArg, app_of, rule_of, with_rule}
use Rattle.markdown_tool_command.specs.CommandLine.{flag, valued, with_safe_rules}
use Rattle.markdown_tool_command.proofs.parse.with_safe.Goals as goal

pub returns : goal.returns
returns c =
    let safe : rule_of c.help.result ≡ flag (codes "safe") = search rules in
    let images : rule_of c.help-2.result ≡ valued (codes "images") = search rules in
    let prefix : rule_of c.help-3.result ≡ valued (codes "id-prefix") = search rules in
    let with_safe = c.in_ok-with_safe.ensures.shape (search rules) ∙ ap₂ with_rule refl safe in
    let with_images = c.in_ok-with_images.ensures.shape (search rules) ∙ ap₂ with_rule with_safe images in
    IfOk-weaker c.arg-3.result (λ made. AddsArg c.in_ok-with_images.with_images c.help-3.result made)
    (λ made. app_of made ≡ with_safe_rules (app_of c.args.command))
    (λ made adds. adds.shape (search rules) ∙ ap₂ with_rule with_images prefix) c.arg-3.ensures
