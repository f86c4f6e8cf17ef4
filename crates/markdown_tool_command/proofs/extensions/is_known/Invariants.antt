-- What the rows that are left say, all say.
use Rattle.std.proofs.Common.{◌≡◌, map, drop}
use Rattle.markdown_tool_command.specs.Extensions.{extensions, says_of}
use Rattle.markdown_tool_command.specs.ExtensionRows.{offered}
use Rattle.markdown_tool_command.proofs.extensions.is_known.Given as goal

abbrev pub invariant-rows : goal.invariant-rows
invariant-rows l = says_of (map offered (drop l.row-index l.table)) l.part ≡ says_of extensions l.part
