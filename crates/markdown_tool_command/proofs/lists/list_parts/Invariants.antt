-- The parts so far, with those of the lists that are left, are those of all.
use Rattle.std.proofs.Common.{◌≡◌, ◌++◌, map, drop}
use Rattle.markdown_tool_command.specs.Lists.{list_parts}
use Rattle.markdown_tool_command.proofs.lists.list_parts.Given as goal

abbrev pub invariant-lists : goal.invariant-lists
invariant-lists l =
    map (λ p. p.now) l.parts.items ++ list_parts (map (λ t. t.now) (drop l.list-index l.lists))
    ≡ list_parts (map (λ t. t.now) l.lists)
