-- Of which text a `Positions` is.
use Rattle.std.specs.Prelude.{ℕ, List}
use Rattle.markdown_positions.specs.declared.positions.Positions.{Positions}

-- the bytes of its text
abbrev pub positions_text : Positions → List ℕ
positions_text p = p.text.now
