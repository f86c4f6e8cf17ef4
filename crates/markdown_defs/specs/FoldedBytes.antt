-- The bytes of ASCII that case folding leaves as they are.
use Rattle.std.specs.Prelude.{ℕ, Bool, ◌&&◌, not}
use Rattle.std.specs.Char.{is_ascii, is_ascii_uppercase}

-- the byte is ASCII and no capital
abbrev pub is_folded_byte : ℕ → Bool
is_folded_byte byte = is_ascii byte && not (is_ascii_uppercase byte)
