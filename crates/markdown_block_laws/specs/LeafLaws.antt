-- CommonMark's sentences about where leaf blocks end (4.1 to 4.6, 4.8), for the last of some blocks and one line more.
use Rattle.std.specs.Prelude.{◌≡◌, Bool, true, false, ◌&&◌, ◌==◌, List, [], ◌∷◌, ◌++◌}
use Rattle.markdown_base.specs.Forest.{nil, node}
use Rattle.markdown_lines.specs.declared.fence.OpeningFence.{OpeningFence}
use Rattle.markdown_lines.specs.declared.html_kind.HtmlKind.{HtmlKind}
use Rattle.markdown_base.specs.declared.tag.MetadataBlockKind.{MetadataBlockKind}
use Rattle.markdown_base.specs.Source.{Source}
use Rattle.markdown_lines.specs.HtmlKinds.{ends_at_blank}
use Rattle.markdown_lines.specs.MetadataBlocks.{closes_metadata}
use Rattle.markdown_lines.specs.SourceLines.{SourceLine, cut, is_blank_rest}
use Rattle.markdown_scan.specs.LineStart.{leading_space}
use Rattle.markdown_block_rules.specs.BlockGrowth as was
use Rattle.markdown_block_rules.specs.BlockGrowth.{Block, Kind, closes, ends_html, line_block, with_line}
use Rattle.markdown_block_laws.specs.BlockLaws.{lone}

-- a leaf block ends before a line: what the line is comes after it
abbrev pub EndsBefore : Source → Block → SourceLine → Type 0
EndsBefore s b l = with_line s (lone b nil) l ≡ node b nil (line_block s l)

-- a leaf block goes on in a line, and is of this kind then
abbrev pub GoesOnIn : Source → Block → SourceLine → Kind → Type 0
GoesOnIn s b l kind = with_line s (lone b nil) l ≡ lone (record b { last = l.next; kind = kind }) nil

-- a thematic break, an ATX heading, or a setext heading, whose last line is its underline
abbrev pub ends_with_its_line : Kind → Bool
ends_with_its_line was.blank_line = false
ends_with_its_line (was.paragraph_leaf lines) = false
ends_with_its_line (was.underlined_leaf level lines) = true
ends_with_its_line (was.heading_leaf found) = true
ends_with_its_line was.break_leaf = true
ends_with_its_line (was.indented_leaf lines) = false
ends_with_its_line (was.fenced_leaf opening closed lines) = false
ends_with_its_line (was.html_leaf kind closed lines) = false
ends_with_its_line (was.metadata_leaf kind closed lines) = false
ends_with_its_line (was.table_leaf ended head alignments rows) = false
ends_with_its_line was.quote_container = false
ends_with_its_line (was.alert_container kind) = false
ends_with_its_line (was.list_container marker) = false
ends_with_its_line (was.item_container indent) = false
ends_with_its_line (was.footnote_container label) = false

-- 4.1, 4.2, 4.3: thematic breaks and headings end with their line
abbrev pub HeadingsAndBreaksEnd : Type 0
HeadingsAndBreaksEnd = (s : Source) (b : Block) (l : SourceLine) → ends_with_its_line b.kind ≡ true → EndsBefore s b l

-- 4.4: indented code goes on in lines with four columns of space and in blank lines, and ends before any other
abbrev pub IndentedCodeEndsBeforeText : Type 0
IndentedCodeEndsBeforeText =
    (s : Source) (b : Block) (l : SourceLine) (lines : List SourceLine) → b.kind ≡ was.indented_leaf lines
    → is_blank_rest l ≡ false → ((leading_space 4 l.left).columns == 4) ≡ false → EndsBefore s b l

-- 4.5: fenced code goes on in all lines up to a closing fence, without as much of their indentation as the opening
-- fence has, and ends with that
abbrev pub FencedCodeGoesOn : Type 0
FencedCodeGoesOn =
    (s : Source) (b : Block) (l : SourceLine) (opening : OpeningFence) (lines : List SourceLine)
    → b.kind ≡ was.fenced_leaf opening false lines → closes s l opening.fence ≡ false
    → GoesOnIn s b l (was.fenced_leaf opening false (lines ++ cut opening.fence.indent l ∷ []))

abbrev pub ClosingFenceClosesCode : Type 0
ClosingFenceClosesCode =
    (s : Source) (b : Block) (l : SourceLine) (opening : OpeningFence) (lines : List SourceLine)
    → b.kind ≡ was.fenced_leaf opening false lines → closes s l opening.fence ≡ true
    → GoesOnIn s b l (was.fenced_leaf opening true lines)

abbrev pub ClosedCodeEnds : Type 0
ClosedCodeEnds =
    (s : Source) (b : Block) (l : SourceLine) (opening : OpeningFence) (lines : List SourceLine)
    → b.kind ≡ was.fenced_leaf opening true lines → EndsBefore s b l

-- 4.6: an HTML block goes on up to a line that meets its end condition, and ends with that, or before a blank line
abbrev pub HtmlGoesOn : Type 0
HtmlGoesOn =
    (s : Source) (b : Block) (l : SourceLine) (html : HtmlKind) (lines : List SourceLine)
    → b.kind ≡ was.html_leaf html false lines → (is_blank_rest l && ends_at_blank html) ≡ false
    → GoesOnIn s b l (was.html_leaf html (ends_html html l) (lines ++ l ∷ []))

abbrev pub EndConditionEndsHtml : Type 0
EndConditionEndsHtml =
    (s : Source) (b : Block) (l : SourceLine) (html : HtmlKind) (lines : List SourceLine)
    → b.kind ≡ was.html_leaf html true lines → EndsBefore s b l

abbrev pub BlankLineEndsHtml : Type 0
BlankLineEndsHtml =
    (s : Source) (b : Block) (l : SourceLine) (html : HtmlKind) (lines : List SourceLine)
    → b.kind ≡ was.html_leaf html false lines → (is_blank_rest l && ends_at_blank html) ≡ true → EndsBefore s b l

-- metadata goes on in all lines, whatever they contain, up to one that closes it, and ends with that
abbrev pub MetadataGoesOn : Type 0
MetadataGoesOn =
    (s : Source) (b : Block) (l : SourceLine) (kind : MetadataBlockKind) (lines : List SourceLine)
    → b.kind ≡ was.metadata_leaf kind false lines → closes_metadata kind l.left.bytes ≡ false
    → GoesOnIn s b l (was.metadata_leaf kind false (lines ++ l ∷ []))

abbrev pub ClosingLineClosesMetadata : Type 0
ClosingLineClosesMetadata =
    (s : Source) (b : Block) (l : SourceLine) (kind : MetadataBlockKind) (lines : List SourceLine)
    → b.kind ≡ was.metadata_leaf kind false lines → closes_metadata kind l.left.bytes ≡ true
    → GoesOnIn s b l (was.metadata_leaf kind true lines)

abbrev pub ClosedMetadataEnds : Type 0
ClosedMetadataEnds =
    (s : Source) (b : Block) (l : SourceLine) (kind : MetadataBlockKind) (lines : List SourceLine)
    → b.kind ≡ was.metadata_leaf kind true lines → EndsBefore s b l

-- 4.8: a paragraph ends before a blank line
abbrev pub BlankLineEndsParagraph : Type 0
BlankLineEndsParagraph =
    (s : Source) (b : Block) (l : SourceLine) (lines : List SourceLine) → b.kind ≡ was.paragraph_leaf lines
    → is_blank_rest l ≡ true → EndsBefore s b l
