-- What is written so far serves for all files.
use Rattle.std.proofs.Common.{string_bytes}
use Rattle.markdown_tool_output.specs.Files.{asked_view}
use Rattle.markdown_tool_output.proofs.OutputsLemmas.{WritesSoFar}
use Rattle.markdown_tool_output.proofs.output.outputs_of.Given as goal

abbrev pub invariant-files : goal.invariant-files
invariant-files l = WritesSoFar (asked_view l.asked) l.files l.file-index (string_bytes l.outputs)
