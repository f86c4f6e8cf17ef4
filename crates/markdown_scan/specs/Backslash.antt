-- Backslash escapes (CommonMark 2.4), as far as they decide which brackets and backslashes have an effect, and the
-- escapes of pipes in a table.
use Rattle.std.specs.Prelude.{ℕ, Bool, false, not, ◌&&◌, ◌==◌, List, [], ◌∷◌}
use Rattle.markdown_base.specs.Bytes.{backslash, pipe}

-- the byte is the punctuation character `what`, and no backslash escapes it
abbrev pub is_bare : Bool → ℕ → ℕ → Bool
is_bare escaped b what = not escaped && (b == what)

-- the bytes begin with a pipe
abbrev pub begins_pipe : List ℕ → Bool
begins_pipe [] = false
begins_pipe (b ∷ bytes) = b == pipe

-- in a table, a backslash directly before a pipe
abbrev pub escapes_pipe : Bool → ℕ → List ℕ → Bool
escapes_pipe in_table b bytes = (b == backslash) && in_table && begins_pipe bytes
