-- The inputs so far are the names so far.
use Rattle.std.proofs.Common.{◌≡◌, map, take, string_bytes}
use Rattle.markdown_tool_command.proofs.request.inputs_of.Given as goal

abbrev pub invariant-names : goal.invariant-names
invariant-names l = map string_bytes l.inputs.items ≡ map (λ n. n.now) (take l.name-index l.names)
