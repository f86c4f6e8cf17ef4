-- What a line begins (CommonMark, chapter 4, 5.1 and 5.2), from the bytes that are left of it inside the containers
-- that go on in it, and from whether a paragraph is open that it may go on with.
use Rattle.std.specs.Prelude.{ℕ, ◌+◌, ◌-◌, ◌%◌, Bool, true, false, not, ◌==◌, ◌&&◌, ◌||◌, nat_lt, List, [], ◌∷◌, Option}
use Rattle.std.specs.Prelude.{Some, None, length, drop, slice_index, unwrap_or, codes, if◌then◌else◌}
use Rattle.std.specs.Option.{option_and_then, option_map}
use Rattle.markdown_base.specs.Bytes.{backtick, colon, tilde}
use Rattle.markdown_base.specs.Source.{Source}
use Rattle.markdown_lines.specs.declared.atx_heading.AtxHeading.{AtxHeading}
use Rattle.markdown_lines.specs.declared.block_start.Before.{Before}
use Rattle.markdown_lines.specs.declared.block_start.Before.TheVariants as paragraph
use Rattle.markdown_lines.specs.declared.fence.OpeningFence.{OpeningFence}
use Rattle.markdown_lines.specs.declared.html_kind.HtmlKind.{HtmlKind}
use Rattle.markdown_lines.specs.declared.list_marker.ListMarker.{ListMarker}
use Rattle.markdown_base.specs.declared.syntax.Syntax.{Syntax}
use Rattle.markdown_base.specs.declared.tag.BlockQuoteKind.{BlockQuoteKind}
use Rattle.markdown_base.specs.declared.tag.HeadingLevel.{HeadingLevel}
use Rattle.markdown_base.specs.declared.tag.MetadataBlockKind.{MetadataBlockKind}
use Rattle.markdown_base.specs.declared.tag.MetadataBlockKind.TheVariants as metadata
use Rattle.markdown_lines.specs.Alerts.{alert_read}
use Rattle.markdown_lines.specs.AtxHeadings.{atx_heading_at}
use Rattle.markdown_scan.specs.Beginnings.{begins_with}
use Rattle.markdown_lines.specs.CodeFences.{opening_fence_at}
use Rattle.markdown_lines.specs.HeadingAttributes.{attributed}
use Rattle.markdown_lines.specs.HtmlBeginnings.{html_kind_of, in_one_line}
use Rattle.markdown_scan.specs.Label.{link_label}
use Rattle.markdown_scan.specs.LineStart.{LineLeft, Space, leading_space, past_marker}
use Rattle.markdown_lines.specs.ListMarkers.{list_marker_at}
use Rattle.markdown_lines.specs.MetadataBlocks.{metadata_opened}
use Rattle.markdown_lines.specs.SourceLines.{SourceLine}
use Rattle.markdown_lines.specs.ThematicBreaks.{is_thematic_break, setext_level}

-- the line may go on with a paragraph: one that it reaches, or one that it could continue lazily
abbrev pub is_paragraph : Before → Bool
is_paragraph paragraph.NoParagraph = false
is_paragraph paragraph.Lazy = true
is_paragraph paragraph.Reached = true

-- the line reaches a paragraph
abbrev pub is_reached : Before → Bool
is_reached paragraph.NoParagraph = false
is_reached paragraph.Lazy = false
is_reached paragraph.Reached = true

-- What a line begins. Containers have the rest of the line inside them; an item has the columns of its indentation,
-- too.
pub data Beginning : Type 0 where
  begins_text : Beginning
  begins_indented : LineLeft → Beginning
  begins_quote : LineLeft → Beginning
  -- an alert, a block quote of which the whole line is the marker
  begins_alert : BlockQuoteKind → Beginning
  begins_heading : AtxHeading → Beginning
  begins_fence : OpeningFence → Beginning
  begins_html : HtmlKind → Beginning
  begins_footnote : List ℕ → LineLeft → Beginning
  begins_underline : HeadingLevel → Beginning
  begins_break : Beginning
  begins_item : ListMarker → ℕ → LineLeft → Beginning
  begins_metadata : MetadataBlockKind → Beginning

-- after `count` bytes of one column each
abbrev pub past_bytes : ℕ → LineLeft → LineLeft
past_bytes count left = record {
  scanned = left.scanned + count;
  owed = 0;
  column = (left.column + count) % 4;
  bytes = drop count left.bytes;
}

-- a block quote, which is an alert of a kind or none
abbrev pub quote_or_alert : LineLeft → Option BlockQuoteKind → Beginning
quote_or_alert rest None = begins_quote rest
quote_or_alert rest (Some kind) = begins_alert kind

-- the same, from what is left of the line after its marker
abbrev pub quote_of : Syntax → LineLeft → Beginning
quote_of syntax rest = quote_or_alert rest (alert_read syntax rest)

-- 5.1: a `>`, and at most one column of space
abbrev pub quote_in_line : Source → LineLeft → Option Beginning
quote_in_line s here =
    if begins_with (codes ">") here.bytes then Some (quote_of s.syntax (past_marker here)) else None

-- an ATX heading with what is read of attributes at the end of its line
abbrev pub whole_heading : Syntax → LineLeft → AtxHeading → AtxHeading
whole_heading syntax here heading =
    if syntax.attributes then attributed (drop (heading.from - here.scanned) here.bytes) heading else heading

-- 4.2: one to six `#`
abbrev pub heading_in_line : Source → LineLeft → Option Beginning
heading_in_line s here = option_map (λ heading. begins_heading (whole_heading s.syntax here heading))
    (atx_heading_at s.text here.scanned (here.scanned + length here.bytes))

-- 4.5: three or more backticks or tildes
abbrev pub fence_in_line : Source → ℕ → LineLeft → Option Beginning
fence_in_line s columns here =
    let byte = slice_index here.bytes 0 in
    if (byte == backtick) || (byte == tilde)
    then option_map begins_fence (opening_fence_at s.text here.scanned (here.scanned + length here.bytes) byte columns)
    else None

-- 4.6: one of seven start conditions, of which the last does not interrupt a paragraph
abbrev pub html_in_line : Before → LineLeft → Option Beginning
html_in_line before here =
    if begins_with (codes "<") here.bytes then option_map begins_html (html_kind_of here.bytes (is_paragraph before))
    else None

-- the label of `[^label]:` and the length of that, from the label that was read after the `[^`
abbrev pub label_before_colon : List ℕ → Option (ℕ × List ℕ) → Option (List ℕ × ℕ)
label_before_colon bytes None = None
label_before_colon bytes (Some label) =
    if slice_index bytes (label.0 + 2) == colon then Some (label.1, label.0 + 3) else None

-- the same, of the marker that bytes begin with: its label is in one line
abbrev pub footnote_marker : List ℕ → Option (List ℕ × ℕ)
footnote_marker bytes =
    if begins_with (codes "[^") bytes then label_before_colon bytes (link_label in_one_line false (drop 2 bytes))
    else None

-- a footnote definition, where footnotes are enabled
abbrev pub footnote_in_line : Syntax → LineLeft → Option Beginning
footnote_in_line syntax here =
    if syntax.footnotes
    then option_map (λ marker. begins_footnote marker.0 (past_bytes marker.1 here)) (footnote_marker here.bytes)
    else None

-- 4.3: the underline of a paragraph that the line reaches
abbrev pub underline_in_line : Before → LineLeft → Option Beginning
underline_in_line before here = if is_reached before then option_map begins_underline (setext_level here.bytes) else
    None

-- 4.1
abbrev pub break_in_line : LineLeft → Option Beginning
break_in_line here = if is_thematic_break here.bytes then Some begins_break else None

-- 5.2: one to four columns of space belong to the marker, or one where the item begins with a blank line or with
-- indented code
abbrev pub item_space : LineLeft → Space
item_space left =
    let space = leading_space 5 left in
    if nat_lt 0 space.columns && nat_lt space.columns 5 && not (length space.after.bytes == 0) then space
    else record { columns = 1; after = (leading_space 1 left).after }

abbrev pub item_of : ℕ → LineLeft → ListMarker → Beginning
item_of columns here marker =
    let space = item_space (past_bytes marker.width here) in
    begins_item marker (columns + marker.width + space.columns) space.after

-- 5.2: a list item; what may interrupt a paragraph is restricted where the line reaches one
abbrev pub item_in_line : Source → Before → ℕ → LineLeft → Option Beginning
item_in_line s before columns here =
    option_map (item_of columns here)
    (list_marker_at s.text here.scanned (here.scanned + length here.bytes) (is_reached before))

-- metadata that a line opens begins where the line does not reach a paragraph; that of pluses, where it is no text of
-- one either
abbrev pub metadata_begun : Before → MetadataBlockKind → Option Beginning
metadata_begun before metadata.YamlStyle =
    if is_reached before then None else Some (begins_metadata metadata.YamlStyle)
metadata_begun before metadata.PlusesStyle =
    if is_paragraph before then None else Some (begins_metadata metadata.PlusesStyle)

-- metadata, directly under the root
abbrev pub metadata_in_line : Source → Before → SourceLine → Option Beginning
metadata_in_line s before l =
    if l.outermost
    then option_and_then (metadata_begun before) (metadata_opened s.syntax s.text l.left.bytes l.next) else None

-- the first that is there, and otherwise text
abbrev pub first_found : List (Option Beginning) → Beginning
first_found [] = begins_text
first_found (None ∷ others) = first_found others
first_found (Some found ∷ others) = found

-- what a line begins after fewer than four columns of space
abbrev pub begins_after : Source → Before → ℕ → LineLeft → Beginning
begins_after s before columns here =
    first_found (quote_in_line s here ∷ heading_in_line s here ∷ fence_in_line s columns here ∷
    html_in_line before here ∷ footnote_in_line s.syntax here ∷ underline_in_line before here ∷ break_in_line here ∷
    item_in_line s before columns here ∷ [])

-- What a line begins that is not blank. Four columns of space begin code, which does not interrupt a paragraph (4.4).
abbrev pub begins : Source → Before → SourceLine → Beginning
begins s before l =
    let space = leading_space 4 l.left in
    if space.columns == 4 then (if is_paragraph before then begins_text else begins_indented space.after)
    else unwrap_or (metadata_in_line s before l) (begins_after s before space.columns space.after)
