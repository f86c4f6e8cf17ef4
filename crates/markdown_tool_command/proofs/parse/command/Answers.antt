-- The command has all arguments.
use Rattle.std.proofs.Common.{rules, ◌≡◌, ◌∙◌, ap, ap₂, codes}
use Rattle.std.proofs.lemmas.Result.{IfOk-weaker}
use Rattle.clap.specs.Words.{app_of, rule_of, with_rule}
use Rattle.clap.specs.declared.builder.value_parser.ValueParser.TheVariants.{Names}
use Rattle.markdown_tool_command.specs.CommandLine.{flag, tool, with_bound_rules, with_contents_rules}
use Rattle.markdown_tool_command.specs.CommandLine.{with_extension_rules, with_file_rules, with_page_rules}
use Rattle.markdown_tool_command.specs.CommandLine.{with_safe_rules}
use Rattle.markdown_tool_command.proofs.parse.command.Goals as goal

pub returns : goal.returns
returns c =
    let positions : rule_of c.help.result ≡ flag (codes "positions") = search rules in
    let with_formats = c.in_ok-with_formats.ensures.shape c.to.ensures.local
    ∙ ap₂ with_rule c.in_ok-bare.ensures c.to.ensures.rule in
    let with_safe = c.in_ok-with_safe.ensures ∙ ap with_safe_rules with_formats in
    let bounded = c.in_ok-bounded.ensures ∙ ap with_bound_rules with_safe in
    let extended = c.in_ok-extended.ensures ∙ ap with_extension_rules bounded in
    let paged = c.in_ok-paged.ensures ∙ ap with_page_rules extended in
    let contents = c.in_ok-with_contents.ensures ∙ ap with_contents_rules paged in
    let placed = c.in_ok-with_positions.ensures.shape (search rules) ∙ ap₂ with_rule contents positions in
    IfOk-weaker c.with_files.result
    (λ made. app_of made ≡ with_file_rules (app_of c.in_ok-with_positions.with_positions))
    (λ made. app_of made ≡ tool (Names c.args.formats))
    (λ made is. is ∙ ap with_file_rules placed) c.with_files.ensures
