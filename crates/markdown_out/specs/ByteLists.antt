-- Lists of bytes: parts one after another, bytes appended in part, and whether a line is fresh after them.
use Rattle.std.specs.Prelude.{◌≡◌, ℕ, Bool, List, [], ◌∷◌, ◌++◌, ◌==◌}
use Rattle.markdown_base.specs.Bytes.{line_feed}

-- the parts, one after another
abbrev pub joined : List (List ℕ) → List ℕ
joined [] = []
joined (part ∷ []) = part
joined (part ∷ next ∷ parts) = part ++ joined (next ∷ parts)

-- the old text is followed by a prefix of these bytes, and nothing else
pub record AppendsPrefix (old new bytes : List ℕ) : Type 0 where
  pub prefix : List ℕ
  pub missing : List ℕ
  pub stands : new ≡ old ++ prefix
  pub whole : prefix ++ missing ≡ bytes

-- whether a line is fresh after these bytes: the last is a newline, or there are none, and it was fresh before
abbrev pub fresh_after_bytes : Bool → List ℕ → Bool
fresh_after_bytes before [] = before
fresh_after_bytes before (b ∷ bytes) = fresh_after_bytes (b == line_feed) bytes
