-- The command has the two arguments more.
use Rattle.std.proofs.Common.{rules, ◌≡◌, ◌∙◌, ap₂, codes, refl}
use Rattle.std.proofs.lemmas.Result.{IfOk-weaker}
use Rattle.clap.specs.Words.{AddsArg, app_of, rule_of, with_rule}
use Rattle.markdown_tool_command.specs.CommandLine.{flag, valued, with_bound_rules}
use Rattle.markdown_tool_command.proofs.parse.with_bounds.Goals as goal

pub returns : goal.returns
returns c =
    let rel : rule_of c.help.result ≡ flag (codes "no-rel") = search rules in
    let nesting : rule_of c.help-2.result ≡ valued (codes "nesting") = search rules in
    let with_rel = c.in_ok-with_rel.ensures.shape (search rules) ∙ ap₂ with_rule refl rel in
    IfOk-weaker c.arg-2.result (λ made. AddsArg c.in_ok-with_rel.with_rel c.help-2.result made)
    (λ made. app_of made ≡ with_bound_rules (app_of c.args.command))
    (λ made adds. adds.shape (search rules) ∙ ap₂ with_rule with_rel nesting) c.arg-2.ensures
