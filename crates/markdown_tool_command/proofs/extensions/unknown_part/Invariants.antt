-- The first unknown part is that of the parts that are left.
use Rattle.std.proofs.Common.{◌≡◌, map, drop}
use Rattle.markdown_tool_command.specs.Extensions.{unknown_part}
use Rattle.markdown_tool_command.proofs.extensions.unknown_part.Given as goal

abbrev pub invariant-parts : goal.invariant-parts
invariant-parts l =
    unknown_part (map (λ p. p.now) (drop l.part-index l.parts)) ≡ unknown_part (map (λ p. p.now) l.parts)
