-- What the bytes of a line's content can be other than text.
use Rattle.std.specs.Prelude.{◌≡◌, ◌≢◌, ℕ, ◌<◌, ◌≤◌, Bool, true, false, not, ◌==◌, ◌&&◌, ◌||◌, nat_le, nat_lt, ◌+◌}
use Rattle.std.specs.Prelude.{◌-◌, List, Option, Some, None, slice_index, slice_range, codes, if◌then◌else◌}
use Rattle.markdown_base.specs.declared.syntax.Syntax.{Syntax}
use Rattle.std.specs.List.{list_any, prefix_len}
use Rattle.markdown_base.specs.Bytes.{asterisk, backslash, caret, less_than, plus_sign, space, tilde, underscore}
use Rattle.markdown_base.specs.declared.item.ItemBody.{ItemBody}
use Rattle.markdown_base.specs.declared.item.ItemBody.TheVariants as body
use Rattle.markdown_builder.specs.BuilderView.{IsRunOf}
use Rattle.markdown_scan.specs.Entity.{entity_names}
use Rattle.markdown_items.specs.declared.extensions.ItemSyntax.{ItemSyntax}
use Rattle.markdown_items.specs.declared.flanking.Flags.{Flags}
use Rattle.markdown_items.specs.Flanking.{is_white, flags_of}

-- what a syntax has of a line's items: `~` with strikethrough or subscript, `^` with superscript, quotation marks,
-- dashes, `$` with math; and the names by which entities are read
abbrev pub item_syntax : Syntax → ItemSyntax
item_syntax syntax = record {
  tildes = syntax.strikethrough || syntax.subscript;
  carets = syntax.superscript;
  quotes = syntax.quotes;
  dashes = syntax.dashes;
  math = syntax.math;
  names = entity_names syntax;
}

-- a backslash precedes an offset at which a text begins, in a line's content that begins at `start`
abbrev pub is_after_backslash : List ℕ → ℕ → ℕ → Bool
is_after_backslash text start at = nat_lt start at && (slice_index text (at - 1) == backslash)

-- the bytes that may begin something other than text, with any extensions; the table in code is checked against them
abbrev pub special_bytes : List ℕ
special_bytes = codes "!\"$&'*<[\\]^_`~"

-- a byte that dashes or an ellipsis are written by
abbrev pub is_dash_byte : ℕ → Bool
is_dash_byte byte = list_any (λ b. b == byte) (codes "-.")

-- a byte may begin something other than text, where dashes are read or not
abbrev pub is_special : (dashes : Bool) → ℕ → Bool
is_special dashes byte = list_any (λ b. b == byte) special_bytes || (is_dash_byte byte && dashes)

-- plain bytes, which most text consists of: none of them is special
abbrev pub is_plain : (dashes : Bool) → ℕ → Bool
is_plain dashes byte =
    nat_le byte space
    || (nat_le plus_sign byte && nat_le byte 90 && not (byte == less_than) && not (is_dash_byte byte && dashes))
    || (nat_le 97 byte && not (byte == tilde))

-- `found` is the first offset from `from` on whose byte may begin something other than text, or `end`
pub record IsFirstSpecial (dashes : Bool) (text : List ℕ) (from end found : ℕ) : Type 0 where
  pub low : from ≤ found
  pub high : found ≤ end
  pub plain : (at : ℕ) → from ≤ at → at < found → is_special dashes (slice_index text at) ≡ false
  pub stops : found < end → is_special dashes (slice_index text found) ≡ true

-- the offset after the run of the byte at `at`, in a line's content that ends at `end`
abbrev pub run_end : List ℕ → ℕ → ℕ → ℕ
run_end text at end = at + prefix_len (λ b. b == slice_index text at) (slice_range text at end)

-- the whole run of the byte at `at` consists of the bytes up to `stop`, in a line's content that ends at `end`
pub record IsMaximalRun (text : List ℕ) (at end stop : ℕ) : Type 0 where
  pub run : IsRunOf (slice_index text at) text at stop
  pub within : stop ≤ end
  pub whole : stop < end → slice_index text stop ≢ slice_index text at

-- `count` of a character can be a delimiter run, regardless of the characters around them: any number of `*` or `_`
-- (CommonMark 6.2), one or two `~`, any number of `^`. Another character of `is_delimiter` has its case here, and
-- remains text without it.
abbrev pub makes_run : ItemSyntax → ℕ → ℕ → Bool
makes_run extensions byte count =
    if (byte == asterisk) || (byte == underscore) then true
    else if byte == tilde then extensions.tildes && nat_le count 2
    else if byte == caret then extensions.carets
    else false

-- the flags of a delimiter run between two characters, if it is one: a run that can neither open nor close is text
abbrev pub run_flags : ItemSyntax → ℕ → ℕ → Option ℕ → Option ℕ → Option Flags
run_flags extensions byte count before after =
    let flags = flags_of byte before after in
    if makes_run extensions byte count && (flags.opens || flags.closes) then Some flags else None

-- a `$` between two characters can open if no white space follows it, and close if none precedes it; its brace context
-- is 0
abbrev pub math_mark : Option ℕ → Option ℕ → ItemBody
math_mark before after = body.MaybeMath (not (is_white after)) (not (is_white before)) 0

-- a quotation mark between two characters
abbrev pub quote_mark : ℕ → Option ℕ → Option ℕ → ItemBody
quote_mark byte before after =
    let flags = flags_of byte before after in body.MaybeSmartQuote byte flags.opens flags.closes
