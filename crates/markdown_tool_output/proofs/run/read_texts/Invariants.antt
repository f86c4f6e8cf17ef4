-- The files before this one are read, with the texts so far.
use Rattle.std.proofs.Common.{map, string_bytes}
use Rattle.markdown_tool_output.proofs.StepsLemmas.{ReadSoFar}
use Rattle.markdown_tool_output.proofs.run.read_texts.Given as goal

abbrev pub invariant-names : goal.invariant-names
invariant-names g l =
    ReadSoFar l.lossy l.names l.name-index (map string_bytes l.texts.items) (g.F.Files.steps l.initial.files)
    (g.F.Files.steps l.files)
