-- With the files of the texts that are left, the files so far are those of all.
use Rattle.std.proofs.Common.{◌≡◌, ◌++◌, drop, map, string_bytes}
use Rattle.markdown_tool_output.specs.Files.{file_view}
use Rattle.markdown_tool_output.specs.Outputs.{files_from, files_of}
use Rattle.markdown_tool_output.proofs.file.files_of.Given as goal

abbrev pub invariant-loop-before : goal.invariant-loop-before
invariant-loop-before l =
    map file_view l.files.items ++ files_from l.request l.several l.before (map string_bytes (drop l.before l.texts))
    ≡ files_of l.request (map string_bytes l.texts)
