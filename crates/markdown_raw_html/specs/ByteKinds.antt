-- The kinds of bytes that the scanner of tags names, for private clauses.
use Rattle.std.specs.Prelude.{ℕ, Bool, not, ◌||◌, ◌==◌, codes}
use Rattle.std.specs.Char.{is_ascii_alphabetic, is_ascii_alphanumeric}
use Rattle.markdown_raw_html.specs.HtmlTag.{in_unquoted, is_of, is_tag_blank}
use Rattle.markdown_raw_html.specs.declared.byte_kind.ByteKind.{ByteKind}
use Rattle.markdown_raw_html.specs.declared.byte_kind.ByteKind.TheVariants as kind

-- a byte is of the kind
abbrev pub in_kind : ByteKind → ℕ → Bool
in_kind kind.Blank = is_tag_blank
in_kind kind.Letter = is_ascii_alphabetic
in_kind kind.InTagName = λ b. is_ascii_alphanumeric b || is_of (codes "-") b
in_kind kind.BeginsAttribute = λ b. is_ascii_alphabetic b || is_of (codes "_:") b
in_kind kind.InAttribute = λ b. is_ascii_alphanumeric b || is_of (codes "_.:-") b
in_kind kind.Unquoted = in_unquoted
in_kind (kind.Only mark) = λ b. b == mark
in_kind (kind.Except mark) = λ b. not (b == mark)
