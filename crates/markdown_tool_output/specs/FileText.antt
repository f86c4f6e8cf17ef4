-- The text of a file: its bytes, without a byte order mark, and where they are no text.
use Rattle.std.specs.Prelude.{◌≡◌, ℕ, Bool, ◌+◌, ◌==◌, List, [], ◌∷◌, take, count_by, drop, length, if◌then◌else◌}
use Rattle.std.specs.Str.{IsUtf8, bytes_eq}
use Rattle.std.specs.Str.Lossy.{utf8_lossy, utf8_valid_len}
use Rattle.markdown_base.specs.Bytes.{line_feed}
use Rattle.markdown_tool_output.specs.declared.text.NotText.{NotText}

-- the number of the line that holds the byte at an offset: one more than the line feeds before it
abbrev pub line_number : List ℕ → ℕ → ℕ
line_number bytes offset = count_by (λ b. b == line_feed) (take offset bytes) + 1

-- the bytes are no text, and this is the line and the offset of the first byte that belongs to no character
pub record IsNotText (bytes : List ℕ) (at : NotText) : Type 0 where
  pub is_not : IsUtf8 bytes → ⊥
  pub offset : at.offset ≡ utf8_valid_len bytes
  pub line : at.line ≡ line_number bytes at.offset

-- the text of a file: its bytes, or where it is lossy, these with U+FFFD for each maximal piece that is no UTF-8
abbrev pub file_text : (lossy : Bool) → List ℕ → List ℕ
file_text lossy bytes = if lossy then utf8_lossy bytes else bytes

-- the byte order mark, U+FEFF in UTF-8
abbrev pub mark : List ℕ
mark = 239 ∷ 187 ∷ 191 ∷ []

-- a text without a mark at its beginning
abbrev pub without_mark : List ℕ → List ℕ
without_mark text = if bytes_eq (take (length mark) text) mark then drop (length mark) text else text
