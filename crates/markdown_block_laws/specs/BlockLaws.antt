-- Sentences of CommonMark, chapter 5, about one line more, as laws of the definition.
use Rattle.std.specs.Prelude.{◌≡◌, ℕ, Bool, true, false, ◌&&◌, ◌||◌, List, [], ◌∷◌, Some, None, if◌then◌else◌}
use Rattle.std.specs.List.{fold}
use Rattle.markdown_base.specs.Forest.{Forest, nil, node}
use Rattle.markdown_lines.specs.declared.block_start.Before.TheVariants as paragraph
use Rattle.markdown_lines.specs.Alerts.{alert_read}
use Rattle.markdown_lines.specs.BlockBeginnings as line
use Rattle.markdown_base.specs.Source.{Source}
use Rattle.markdown_lines.specs.BlockBeginnings.{begins}
use Rattle.markdown_block_rules.specs.BlockGrowth.{Block, Kind, content_of, goes_on, is_nil, is_text, item_container}
use Rattle.markdown_block_rules.specs.BlockGrowth.{list_container}
use Rattle.markdown_block_rules.specs.BlockGrowth.{line_block, paragraph_leaf}
use Rattle.markdown_block_rules.specs.BlockGrowth.{quote_container, with_lazy, with_line}
use Rattle.markdown_lines.specs.declared.list_marker.ListMarker.{ListMarker}
use Rattle.markdown_scan.specs.ContainerParts.{past_indent, past_quote}
use Rattle.markdown_scan.specs.LineStart.{LineLeft}
use Rattle.markdown_lines.specs.SourceLines.{SourceLine, is_blank_rest, rest_inside, text_line}
use Rattle.markdown_builder.specs.TreeLevels.{followed_by}

-- a block with a line more
abbrev pub to_line : SourceLine → Block → Block
to_line l b = record b { last = l.next }

-- the rest of a line inside a container
abbrev pub rest_of : SourceLine → LineLeft → SourceLine
rest_of l rest = rest_inside rest l

-- one block, with these blocks in it
abbrev pub lone : Block → Forest Block → Forest Block
lone b below = node b below nil

-- blocks with more lines
abbrev pub with_lines : Source → Forest Block → List SourceLine → Forest Block
with_lines s = fold (with_line s)

-- 5.1, basic case. A block quote with a line more that has its marker is the block quote of what is in it with the rest
-- of the line more.
abbrev pub MarkedLineGoesIntoQuote : Type 0
MarkedLineGoesIntoQuote =
    (s : Source) (b : Block) (below : Forest Block) (l : SourceLine) (rest : LineLeft)
    → b.kind ≡ quote_container → past_quote l.left ≡ Some rest
    → with_line s (lone b below) l ≡ lone (to_line l b) (with_line s below (rest_of l rest))

-- The same for lines that all have the marker: `rests` are they without it.
pub data AreQuoted : List SourceLine → List SourceLine → Type 0 where
  no_quoted : AreQuoted [] []
  one_quoted : (l : SourceLine) (rest : LineLeft) (lines rests : List SourceLine)
      → past_quote l.left ≡ Some rest → AreQuoted lines rests → AreQuoted (l ∷ lines) (rest_of l rest ∷ rests)

-- a block with lines more
abbrev pub to_lines : List SourceLine → Block → Block
to_lines [] b = b
to_lines (l ∷ lines) b = to_lines lines (to_line l b)

abbrev pub MarkedLinesGoIntoQuote : Type 0
MarkedLinesGoIntoQuote =
    (s : Source) (b : Block) (below : Forest Block) (lines rests : List SourceLine)
    → b.kind ≡ quote_container → AreQuoted lines rests
    → with_lines s (lone b below) lines ≡ lone (to_lines lines b) (with_lines s below rests)

-- the block quote that begins with a line
abbrev pub quote_from : SourceLine → Block
quote_from l = record { start = content_of l; first = l.next; last = l.next; kind = quote_container }

-- 5.1, basic case. Lines that all have the marker, and of which the first is not blank without it and names no alert,
-- make one block quote, and in it what they make without the marker.
abbrev pub QuotedLinesMakeQuote : Type 0
QuotedLinesMakeQuote =
    (s : Source) (l : SourceLine) (rest : LineLeft) (lines rests : List SourceLine)
    → past_quote l.left ≡ Some rest → alert_read s.syntax rest ≡ None → is_blank_rest (rest_of l rest) ≡ false
    → AreQuoted lines rests
    → with_lines s nil (l ∷ lines) ≡ lone (to_lines lines (quote_from l)) (with_lines s nil (rest_of l rest ∷ rests))

-- 5.1, consecutiveness. A blank line without a marker ends a block quote: what follows is another block.
abbrev pub BlankLineEndsQuote : Type 0
BlankLineEndsQuote =
    (s : Source) (b : Block) (below : Forest Block) (l : SourceLine)
    → b.kind ≡ quote_container → is_blank_rest l ≡ true → past_quote l.left ≡ None
    → with_line s (lone b below) l ≡ node b below (line_block s l)

-- 5.1, laziness. A line goes on with a paragraph in a quote as text. The same line without the marker, where it begins
-- no other block, gives the same blocks.
abbrev pub MarkerBeforeTextMayBeLeftOut : Type 0
MarkerBeforeTextMayBeLeftOut =
    (s : Source) (b : Block) (below grown : Forest Block) (marked bare : SourceLine) (rest : LineLeft)
    → b.kind ≡ quote_container → past_quote marked.left ≡ Some rest → past_quote bare.left ≡ None
    → text_line (rest_of marked rest) ≡ text_line bare
    → goes_on s below (rest_of marked rest) ≡ Some grown → with_lazy (rest_of marked rest) below ≡ Some grown
    → is_blank_rest bare ≡ false → is_text (begins s paragraph.Lazy bare) ≡ true
    → with_line s (lone b below) bare ≡ with_line s (lone b below) marked

-- 5.2, the other lines of an item. A list with a line more that has the indentation of its last item is the list of the
-- item of what is in it with the rest of the line more; but a blank line is not in an item that is empty so far.
abbrev pub IndentedLineGoesIntoItem : Type 0
IndentedLineGoesIntoItem =
    (s : Source) (list b : Block) (marker : ListMarker) (indent : ℕ) (below : Forest Block) (l : SourceLine)
    (rest : LineLeft)
    → list.kind ≡ list_container marker → b.kind ≡ item_container indent
    → (is_blank_rest l && is_nil below) ≡ false → past_indent indent l.left ≡ Some rest
    → with_line s (lone list (lone b below)) l
    ≡ lone (to_line l list) (lone (to_line l b) (with_line s below (rest_of l rest)))

-- The same for lines that all have the indentation: `rests` are they without it.
pub data AreIndented (indent : ℕ) : List SourceLine → List SourceLine → Type 0 where
  no_indented : AreIndented indent [] []
  one_indented : (l : SourceLine) (rest : LineLeft) (lines rests : List SourceLine)
      → past_indent indent l.left ≡ Some rest → AreIndented indent lines rests
      → AreIndented indent (l ∷ lines) (rest_of l rest ∷ rests)

-- the list and the item that begin with a line
abbrev pub list_from : ListMarker → SourceLine → Block
list_from marker l = record { start = content_of l; first = l.next; last = l.next; kind = list_container marker }

abbrev pub item_from : ℕ → SourceLine → Block
item_from indent l = record { start = content_of l; first = l.next; last = l.next; kind = item_container indent }

-- a list of one item, of lines
abbrev pub one_item_list : ListMarker → ℕ → SourceLine → List SourceLine → Forest Block → Forest Block
one_item_list marker indent l lines below =
    lone (to_lines lines (list_from marker l)) (lone (to_lines lines (item_from indent l)) below)

-- 5.2, rules 1 and 2. A line that begins an item and is not blank after the marker, and lines that all have the
-- indentation, make one list of one item, and in it what they make without marker and indentation.
abbrev pub IndentedLinesMakeItem : Type 0
IndentedLinesMakeItem =
    (s : Source) (l : SourceLine) (marker : ListMarker) (indent : ℕ) (rest : LineLeft) (lines rests : List SourceLine)
    → is_blank_rest l ≡ false → begins s paragraph.NoParagraph l ≡ line.begins_item marker indent rest
    → is_blank_rest (rest_of l rest) ≡ false → AreIndented indent lines rests
    → with_lines s nil (l ∷ lines) ≡ one_item_list marker indent l lines (with_lines s nil (rest_of l rest ∷ rests))

-- 5.2, rule 3. The same where the line is blank after the marker, and the next one is not blank: what they make without
-- the marker's line.
abbrev pub ItemMayBeginWithBlankLine : Type 0
ItemMayBeginWithBlankLine =
    (s : Source) (l m : SourceLine) (marker : ListMarker) (indent : ℕ) (rest : LineLeft) (lines rests : List SourceLine)
    → is_blank_rest l ≡ false → begins s paragraph.NoParagraph l ≡ line.begins_item marker indent rest
    → is_blank_rest (rest_of l rest) ≡ true → is_blank_rest m ≡ false → AreIndented indent (m ∷ lines) rests
    → with_lines s nil (l ∷ m ∷ lines) ≡ one_item_list marker indent l (m ∷ lines) (with_lines s nil rests)

-- 5.2, laziness, as in a block quote.
abbrev pub IndentationBeforeTextMayBeLeftOut : Type 0
IndentationBeforeTextMayBeLeftOut =
    (s : Source) (list b : Block) (marker : ListMarker) (indent : ℕ) (below grown : Forest Block)
    (deep bare : SourceLine) (rest : LineLeft)
    → list.kind ≡ list_container marker → b.kind ≡ item_container indent
    → past_indent indent deep.left ≡ Some rest → past_indent indent bare.left ≡ None
    → text_line (rest_of deep rest) ≡ text_line bare
    → goes_on s below (rest_of deep rest) ≡ Some grown → with_lazy (rest_of deep rest) below ≡ Some grown
    → is_blank_rest deep ≡ false → is_blank_rest bare ≡ false → is_text (begins s paragraph.Lazy bare) ≡ true
    → with_line s (lone list (lone b below)) bare ≡ with_line s (lone list (lone b below)) deep

-- a block is a paragraph
abbrev pub is_paragraph_block : Kind → Bool
is_paragraph_block (paragraph_leaf lines) = true
is_paragraph_block other = false

-- the last of some blocks is a paragraph, or has one as its last block, at any depth
abbrev pub end_with_paragraph : Forest Block → Bool
end_with_paragraph nil = false
end_with_paragraph (node b below after) =
    if is_nil after then is_paragraph_block b.kind || end_with_paragraph below else end_with_paragraph after

-- 5.1. Only a paragraph goes on in a line that lacks the marker: where a quote does not end with one, it ends.
abbrev pub OnlyParagraphsGoOnLazily : Type 0
OnlyParagraphsGoOnLazily =
    (s : Source) (b : Block) (below : Forest Block) (l : SourceLine)
    → b.kind ≡ quote_container → past_quote l.left ≡ None → end_with_paragraph below ≡ false
    → with_line s (lone b below) l ≡ node b below (line_block s l)

-- A line more changes the last block alone: the blocks before it stay.
abbrev pub LineChangesTheLastBlock : Type 0
LineChangesTheLastBlock =
    (s : Source) (before : Forest Block) (b : Block) (below : Forest Block) (l : SourceLine)
    → with_line s (followed_by before (lone b below)) l ≡ followed_by before (with_line s (lone b below) l)
