-- Bytes that are examined together, for private clauses: those that a scan passes over until one of them matters.
use Rattle.std.specs.Prelude.{◌≡◌, ◌≤◌, ◌<◌, ◌==◌, ◌||◌, ℕ, List, Bool, false, length, slice_index}
use Rattle.markdown_base.specs.Bytes.{ampersand, backslash, close_parenthesis, open_parenthesis}
use Rattle.markdown_scan.specs.AsciiKinds.{is_control_or_space}

-- an escape or an entity may begin with the byte
abbrev pub may_begin_reference : ℕ → Bool
may_begin_reference byte = (byte == backslash) || (byte == ampersand)

-- the byte may end a destination without angle brackets, or open, close or escape something in it
abbrev pub may_matter : ℕ → Bool
may_matter byte =
    is_control_or_space byte || ((byte == open_parenthesis) || ((byte == close_parenthesis) || (byte == backslash)))

-- no byte before an offset, which may be the length, passes the test
pub record IsPast (test : ℕ → Bool) (bytes : List ℕ) (to : ℕ) : Type 0 where
  pub within : to ≤ length bytes
  pub none : (at : ℕ) → at < to → test (slice_index bytes at) ≡ false
