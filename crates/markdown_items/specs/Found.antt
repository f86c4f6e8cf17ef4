-- What begins at a special byte of a line's content.
use Rattle.std.specs.Prelude.{ℕ, ◌+◌, ◌-◌, true, not, ◌==◌, ◌&&◌, ◌||◌, List, Option, Some, None, slice_index}
use Rattle.std.specs.Prelude.{nat_lt, slice_range, codes, encode_utf8_all, if◌then◌else◌}
use Rattle.std.specs.Char.{is_ascii_punctuation}
use Rattle.markdown_base.specs.Bytes.{ampersand, apostrophe, backslash, backtick, close_bracket, dollar_sign}
use Rattle.markdown_base.specs.Bytes.{double_quote, exclamation_mark, full_stop, hyphen, less_than, open_bracket}
use Rattle.markdown_base.specs.WellFormed.{is_delimiter}
use Rattle.markdown_base.specs.declared.item.ItemBody.TheVariants as body
use Rattle.markdown_scan.specs.Beginnings.{begins_with}
use Rattle.markdown_scan.specs.Entity.{entity}
use Rattle.markdown_scan.specs.declared.entity.EntityNames.{EntityNames}
use Rattle.markdown_items.specs.declared.flanking.Flags.{Flags}
use Rattle.markdown_items.specs.FoundView as found
use Rattle.markdown_items.specs.FoundView.{FoundView}
use Rattle.markdown_items.specs.declared.found.LineRange.{LineRange}
use Rattle.markdown_items.specs.Flanking.{character_before, character_after}
use Rattle.markdown_items.specs.LineItems.{run_end, run_flags, math_mark, quote_mark}

-- A backslash before ASCII punctuation is in no item, and a text begins with what it escapes (CommonMark 2.4);
-- backticks after it are an item. Any other backslash is text.
unfoldable pub escape_at : List ℕ → ℕ → ℕ → FoundView
escape_at text end at =
    if (at + 1 == end) || not (is_ascii_punctuation (slice_index text (at + 1))) then found.Text (at + 1)
    else if slice_index text (at + 1) == backtick then found.EscapedBackticks (run_end text (at + 1) end)
    else found.Escape

-- the entity read at an offset, if any, and otherwise text
abbrev pub entity_found : ℕ → Option (ℕ × List ℕ) → FoundView
entity_found at None = found.Text (at + 1)
entity_found at (Some read) = found.Entity (at + read.0) (encode_utf8_all read.1)

-- an entity by one of these names, or by a number, that ends within the line's content
unfoldable pub entity_at : EntityNames → List ℕ → ℕ → ℕ → FoundView
entity_at names text end at = entity_found at (entity names (slice_range text at end))

-- a `!` directly before a `[` begins an image, and is text otherwise
unfoldable pub image_at : List ℕ → ℕ → ℕ → FoundView
image_at text end at =
    if (at + 1 == end) || not (slice_index text (at + 1) == open_bracket) then found.Text (at + 1) else found.Image

-- a run up to an offset: a delimiter run with its flags if it has them, and otherwise text
abbrev pub run_found : ℕ → Option Flags → FoundView
run_found stop None = found.Text stop
run_found stop (Some flags) = found.DelimiterRun stop flags

-- the whole run at an offset, a delimiter run or text
unfoldable pub run_at : LineRange → List ℕ → ℕ → FoundView
run_at line text at =
    let stop = run_end text at line.end in
    run_found stop (run_flags line.extensions (slice_index text at) (stop - at)
    (character_before text line.start at) (character_after text stop))

-- a `$` or a quotation mark, as a mark if its extension is enabled, and otherwise as text
unfoldable pub mark_at : LineRange → List ℕ → ℕ → FoundView
mark_at line text at =
    let byte = slice_index text at in
    let before = character_before text line.start at in
    let after = character_after text (at + 1) in
    if (byte == dollar_sign) && line.extensions.math then found.Mark (math_mark before after)
    else if ((byte == apostrophe) || (byte == double_quote)) && line.extensions.quotes
    then found.Mark (quote_mark byte before after)
    else found.Text (at + 1)

-- the whole run of hyphens at an offset, which are dashes; one hyphen is text
unfoldable pub hyphens_at : List ℕ → ℕ → ℕ → FoundView
hyphens_at text end at =
    let stop = run_end text at end in if nat_lt (stop - at) 2 then found.Text stop else found.Dashes stop

-- three dots at an offset are an ellipsis, and fewer are text
unfoldable pub dots_at : List ℕ → ℕ → ℕ → FoundView
dots_at text end at =
    if begins_with (codes "...") (slice_range text at end) then found.Ellipsis else found.Text (at + 1)

-- what begins at an offset in a line's content, by its byte, which is special
unfoldable pub found_at : LineRange → List ℕ → ℕ → FoundView
found_at line text at =
    let byte = slice_index text at in
    if byte == backslash then escape_at text line.end at
    else if byte == backtick then found.Backticks (run_end text at line.end)
    else if byte == ampersand then entity_at line.extensions.names text line.end at
    else if byte == exclamation_mark then image_at text line.end at
    else if byte == less_than then found.Mark body.MaybeHtml
    else if byte == open_bracket then found.Mark body.MaybeLinkOpen
    else if byte == close_bracket then found.Mark (body.MaybeLinkClose true)
    else if is_delimiter byte then run_at line text at
    else if byte == hyphen then hyphens_at text line.end at
    else if byte == full_stop then dots_at text line.end at
    else mark_at line text at
