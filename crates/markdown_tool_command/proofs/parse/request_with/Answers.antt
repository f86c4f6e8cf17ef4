-- The request, or why there is none, is that of the matches that clap defines.
use Rattle.std.proofs.Common.{rules, inl, inr, map, string_bytes}
use Rattle.std.proofs.lemmas.Result.{err_from_is_err_and}
use Rattle.clap.specs.Words.{app_of, found_of, rows_of}
use Rattle.clap.specs.declared.builder.value_parser.ValueParser.TheVariants.{Names}
use Rattle.markdown_tool_command.specs.CommandLine.{tool}
use Rattle.markdown_tool_command.proofs.CommandLineLemmas.{asked_by, is_free_tool, is_simple_tool, refused_by}
use Rattle.markdown_tool_command.proofs.CommandLineLemmas.{wrong_by, wrong_choices, wrong_value}
use Rattle.markdown_tool_command.proofs.parse.request_with.Goals as goal

pub returns-in_err-matches-clause-refused : goal.returns-in_err-matches-clause-refused
returns-in_err-matches-clause-refused c =
    let p = err_from_is_err_and c.from_residual-in_err-matches.result c.from_residual-in_err-matches.ensures.1 in
    rw (p.1, p.2) (record {
      why = inl (refused_by (map string_bytes c.args.words.now) (app_of c.in_ok-command.command)
          (tool (Names c.args.formats)) c.in_ok-command.ensures
          (is_free_tool (Names c.args.formats)) c.in_err-matches.field-0.0
          c.in_err-matches.ensures.kinds);
    })

pub returns-in-Ok-clause-request : goal.returns-in-Ok-clause-request
returns-in-Ok-clause-request c =
    asked_by (map string_bytes c.args.words.now) (app_of c.in_ok-command.command)
    (tool (Names c.args.formats)) c.in_ok-command.ensures
    (is_simple_tool (Names c.args.formats)) c.in_ok-matches.matches
    c.in_ok-matches.ensures.ok.2 c.in-Ok.request c.in-Ok.ensures.request

pub returns-in-Err-Misuse-clause-refused : goal.returns-in-Err-Misuse-clause-refused
returns-in-Err-Misuse-clause-refused c =
    record {
      why = inr
          (wrong_by (map string_bytes c.args.words.now) (app_of c.in_ok-command.command)
          (tool (Names c.args.formats)) c.in_ok-command.ensures (is_simple_tool (Names c.args.formats))
          c.in_ok-matches.matches c.in_ok-matches.ensures.ok.2 _
          (wrong_choices (rows_of (found_of c.in_ok-matches.matches)) c.in-Err-Misuse.field-0 _
          c.in-Err-Misuse.ensures.refused c.in-Err-Misuse.misuse (search rules)
          c.in_ok-error-in-Err-Misuse.ensures.kind));
    }

pub returns-clause-refused : goal.returns-clause-refused
returns-clause-refused c =
    record {
      why = inr
          (wrong_by (map string_bytes c.args.words.now) (app_of c.in_ok-command.command)
          (tool (Names c.args.formats)) c.in_ok-command.ensures (is_simple_tool (Names c.args.formats))
          c.in_ok-matches.matches c.in_ok-matches.ensures.ok.2 _
          (wrong_value (rows_of (found_of c.in_ok-matches.matches)) c.in-Err-WrongValue.field-0 _
          c.in-Err-WrongValue.ensures.refused c.in-Err-WrongValue.value (search rules)
          c.in_ok-error-in-Err-WrongValue.ensures.kind));
    }
