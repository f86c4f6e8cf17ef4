-- A refused allocation is one of the faults of an output.
use Rattle.std.proofs.Common.{map, rules, string_bytes}
use Rattle.markdown_tool_output.proofs.OutputsLemmas.{memory_of_output}
use Rattle.markdown_tool_output.proofs.output.output_of.Goals as goal

pub returns-in_err-files-clause-faults : goal.returns-in_err-files-clause-faults
returns-in_err-files-clause-faults c =
    memory_of_output c.args.request.now (map string_bytes c.args.texts.now) c.from_residual.result (search rules)

pub returns-in-Some-clause-faults : goal.returns-in-Some-clause-faults
returns-in-Some-clause-faults c =
    memory_of_output c.args.request.now (map string_bytes c.args.texts.now) c.page_of.result c.page_of.ensures.refused
