-- Kinds of ASCII characters. The control characters are those of CommonMark 2.1. White space is not the Unicode
-- whitespace of 2.1, which includes spaces outside of ASCII: it consists of the ASCII characters among those, and of
-- the line tabulation, which 2.1 does not count.
use Rattle.std.specs.Prelude.{ℕ, Bool, ◌==◌, ◌||◌, ◌&&◌, nat_le}
use Rattle.std.specs.Char.{is_ascii_control}
use Rattle.markdown_base.specs.Bytes.{carriage_return, space, tab}

-- an ASCII control character or a space
abbrev pub is_control_or_space : ℕ → Bool
is_control_or_space b = is_ascii_control b || (b == space)

-- white space: a space, tab, line feed, line tabulation, form feed or carriage return
abbrev pub is_white_space : ℕ → Bool
is_white_space b = (b == space) || (nat_le tab b && nat_le b carriage_return)
