-- With the rows that are left, what is enabled is that of all.
use Rattle.std.proofs.Common.{◌≡◌, map, drop}
use Rattle.markdown_tool_command.specs.Extensions.{all_enabled, with_enabled}
use Rattle.markdown_tool_command.specs.ExtensionRows.{offered}
use Rattle.markdown_tool_command.proofs.extensions.all_enabled.Given as goal

abbrev pub invariant-rows : goal.invariant-rows
invariant-rows l =
    with_enabled l.sets (map (λ p. p.now) l.parts) (map offered (drop l.row-index l.table)) l.enabled
    ≡ all_enabled l.sets (map (λ p. p.now) l.parts)
