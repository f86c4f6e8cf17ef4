-- The replacements of `Escapes`, chosen by the code's `Escape`. Only private clauses cite this.
use Rattle.std.specs.Prelude.{◌≡◌, ◌≤◌, ◌<◌, ◌==◌, ◌||◌, ℕ, List, Bool, false, length, slice_index}
use Rattle.markdown_base.specs.Bytes.{ampersand, double_quote, greater_than, less_than}
use Rattle.markdown_out.specs.Escapes.{text_byte, attribute_byte}
use Rattle.markdown_out.specs.declared.escape.Escape.{Escape}
use Rattle.markdown_out.specs.declared.escape.Escape.TheVariants as escape

-- what a byte is written as
abbrev pub escaped_byte : Escape → ℕ → List ℕ
escaped_byte escape.Text = text_byte
escaped_byte escape.Attribute = attribute_byte

-- some escape replaces the byte: it is `&`, `<`, `>` or `"`
abbrev pub may_be_replaced : ℕ → Bool
may_be_replaced byte =
    (byte == ampersand) || ((byte == less_than) || ((byte == greater_than) || (byte == double_quote)))

-- no escape replaces a byte from one offset up to another, which may be the length
pub record IsBeforeReplaced (bytes : List ℕ) (from to : ℕ) : Type 0 where
  pub low : from ≤ to
  pub high : to ≤ length bytes
  pub kept : (at : ℕ) → from ≤ at → at < to → may_be_replaced (slice_index bytes at) ≡ false
