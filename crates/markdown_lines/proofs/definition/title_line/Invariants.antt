-- The title goes on through the bytes so far.
use Rattle.std.proofs.Common.{◌≡◌, ◌+◌, ◌++◌, ℕ, List, false, drop}
use Rattle.std.specs.Option.{option_map}
use Rattle.markdown_lines.specs.DefinitionRules.{title_length}
use Rattle.markdown_lines.proofs.definition.title_line.Given as goal

abbrev pub invariant-loop-at : goal.invariant-loop-at
invariant-loop-at l =
    (more : List ℕ) → title_length l.close false (l.content ++ more)
    ≡ option_map (λ n. l.at + n) (title_length l.close l.escaped (drop l.at l.content ++ more))
