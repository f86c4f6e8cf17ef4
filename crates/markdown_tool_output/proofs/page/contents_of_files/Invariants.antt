-- With the lists of the files that are left, those so far are those of all.
use Rattle.std.proofs.Common.{◌≡◌, ◌++◌, drop, map, string_bytes}
use Rattle.markdown_tool_output.specs.Files.{asked_view, file_view}
use Rattle.markdown_tool_output.specs.Outputs.{contents_of_files}
use Rattle.markdown_tool_output.proofs.page.contents_of_files.Given as goal

abbrev pub invariant-files : goal.invariant-files
invariant-files l =
    string_bytes l.contents ++ contents_of_files (asked_view l.asked) (map file_view (drop l.file-index l.files))
    ≡ contents_of_files (asked_view l.asked) (map file_view l.files)
