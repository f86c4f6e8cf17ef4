-- What the parts that are left disable, all disable.
use Rattle.std.proofs.Common.{◌≡◌, map, drop}
use Rattle.std.specs.List.{list_any}
use Rattle.markdown_tool_command.specs.Lists.{disables}
use Rattle.markdown_tool_command.proofs.extensions.is_disabled.Given as goal

abbrev pub invariant-parts : goal.invariant-parts
invariant-parts l =
    list_any (disables l.name) (map (λ p. p.now) (drop l.part-index l.parts))
    ≡ list_any (disables l.name) (map (λ p. p.now) l.parts)
