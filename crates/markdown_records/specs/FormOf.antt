-- The parts of bytes whose header is right. Only private clauses cite this.
use Rattle.std.specs.Prelude.{◌≡◌, ℕ, ◌+◌, ◌*◌, Bool, ◌&&◌, ◌==◌, nat_le, List, length, take, Option, None, MatchOption}
use Rattle.std.specs.Str.{bytes_eq}
use Rattle.markdown_records.specs.Decoded.{decoded}
use Rattle.markdown_records.specs.RecordView.{format_bytes, number_at, record_size}
use Rattle.markdown_records.specs.SaidBy.{said_contents}
use Rattle.markdown_records.specs.declared.form.Form.{Form}

-- the header names this format and the lengths of the bytes and of the source, and not more entries than records
abbrev pub has_header : (source bytes : List ℕ) → Bool
has_header source bytes = (length bytes == record_size + record_size * number_at bytes 8 + number_at bytes 16)
    && bytes_eq (take 8 bytes) format_bytes && (number_at bytes 20 == length source)
    && nat_le (number_at bytes 12) (number_at bytes 8)

-- the parts say what the bytes say
abbrev pub IsFormOf : (source bytes : List ℕ) → Form → Type 0
IsFormOf source bytes f = decoded source bytes ≡ said_contents source f.pool.now f.entries.now f.definitions.now

-- the parts are found, or the bytes say nothing
abbrev pub FindsForm : (source bytes : List ℕ) → Option Form → Type 0
FindsForm source bytes found = MatchOption found (decoded source bytes ≡ None) (λ f. IsFormOf source bytes f)
