-- A row of the table of named entities.
use Rattle.std.specs.Prelude.{ℕ, List}

-- a name without its `&` and `;`, and the characters that it stands for
abbrev pub EntityRow : Type 0
EntityRow = List ℕ × List ℕ
