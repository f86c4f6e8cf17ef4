-- The names that are offered are those of the tables.
use Rattle.std.proofs.Common.{rules, map, string_bytes}
use Rattle.std.proofs.lemmas.Result.{IfErr-weaker, IfOk-weaker}
use Rattle.markdown_tool_command.specs.CommandLine.{IsRefusedFor, IsRequestFor}
use Rattle.markdown_tool_command.proofs.parse.request_of.Goals as goal

pub returns-clause-request : goal.returns-clause-request
returns-clause-request c =
    IfOk-weaker c.request_with.result _ (IsRequestFor (map string_bytes c.args.words.now)) (λ request asked. record {
      formats = _;
      formats_offered = search rules;
      asked = asked;
    }) c.request_with.ensures.request

pub returns-clause-refused : goal.returns-clause-refused
returns-clause-refused c =
    IfErr-weaker c.request_with.result _ (IsRefusedFor (map string_bytes c.args.words.now)) (λ error why.
    record {
      formats = _;
      formats_offered = search rules;
      refused = why;
    }) c.request_with.ensures.refused
