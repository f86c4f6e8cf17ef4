-- The block structure of a text: the tree of its blocks with their ranges and with the open items of their lines, its
-- link reference definitions, and its footnotes. All of it is read off the blocks that the lines made.
use Rattle.std.specs.Prelude.{ℕ, zero, suc, ◌+◌, ◌-◌, length, take, Bool, true, false, not, ◌||◌, ◌&&◌, ◌==◌}
use Rattle.std.specs.Prelude.{List, [], ◌∷◌, ◌++◌, Option, Some, None, slice_range, if◌then◌else◌}
use Rattle.std.specs.Option.{option_map}
use Rattle.markdown_base.specs.Forest.{Forest, nil, node}
use Rattle.markdown_lines.specs.declared.braces.Braces.{Braces}
use Rattle.markdown_lines.specs.declared.fence.OpeningFence.{OpeningFence}
use Rattle.markdown_base.specs.declared.item.ItemBody.{ItemBody}
use Rattle.markdown_base.specs.declared.item.ItemBody.TheVariants as body
use Rattle.markdown_base.specs.declared.syntax.Syntax.{Syntax}
use Rattle.markdown_base.specs.declared.tag.Alignment.{Alignment}
use Rattle.markdown_base.specs.declared.tag.HeadingLevel.{HeadingLevel}
use Rattle.markdown_lines.specs.declared.table_row.Cell.{Cell}
use Rattle.markdown_base.specs.Source.{Source}
use Rattle.markdown_block_rules.specs.BlockGrowth as was
use Rattle.markdown_block_rules.specs.BlockGrowth.{Block, Kind, blocks_of}
use Rattle.markdown_builder.specs.BuilderView.{Definition}
use Rattle.markdown_lines.specs.DefinitionRules.{divided}
use Rattle.markdown_lines.specs.HeadingAttributes.{braces_from, braces_in, heading_of_words, words_in}
use Rattle.markdown_block_rules.specs.LineContents.{cell_items, lines_items, source_lines}
use Rattle.markdown_builder.specs.Shown.{Shown, chain_of, plain_item}
use Rattle.markdown_items.specs.ContentItems.{content_items}
use Rattle.markdown_block_rules.specs.TableLines.{cells_added, cells_of}
use Rattle.markdown_items.specs.LineItems.{item_syntax}
use Rattle.markdown_lines.specs.SourceLines.{SourceLine, is_blank_rest, without_empty}
use Rattle.markdown_lines.specs.TaskMarkers.{past_task, task_read}
use Rattle.markdown_scan.specs.Entity.{entity_names}
use Rattle.markdown_scan.specs.Unescape.{unescaped}
use Rattle.markdown_builder.specs.TreeLevels.{followed_by}

-- a line before others, unless it is blank and there are no others
abbrev pub before_code : SourceLine → List SourceLine → List SourceLine
before_code l [] = if is_blank_rest l then [] else l ∷ []
before_code l (m ∷ lines) = l ∷ m ∷ lines

-- the lines of indented code without blank lines at its end
abbrev pub code_lines : List SourceLine → List SourceLine
code_lines [] = []
code_lines (l ∷ lines) = before_code l (code_lines lines)

-- the last of some lines is blank
abbrev pub last_is_blank : List SourceLine → Bool
last_is_blank [] = false
last_is_blank (l ∷ []) = is_blank_rest l
last_is_blank (l ∷ m ∷ lines) = last_is_blank (m ∷ lines)

-- the end of the last of some lines
abbrev pub lines_end : ℕ → List SourceLine → ℕ
lines_end before [] = before
lines_end before (l ∷ lines) = lines_end l.next lines

abbrev pub is_blank_block : Kind → Bool
is_blank_block was.blank_line = true
is_blank_block other = false

-- where a block ends, from where the last block in it does: with its last line, or with the last block in it
abbrev pub block_end : Block → ℕ → Kind → ℕ
block_end b inside (was.list_container marker) = inside
block_end b inside (was.item_container indent) = inside
block_end b inside (was.footnote_container label) = inside
block_end b inside (was.indented_leaf lines) = lines_end b.first (code_lines lines)
block_end b inside other = b.last

-- where the last of some blocks ends, or the number before them
abbrev pub last_end : ℕ → Forest Block → ℕ
last_end before nil = before
last_end before (node b below after) =
    last_end (if is_blank_block b.kind then before else block_end b (last_end b.first below) b.kind) after

-- a block ends with a blank line, from whether the last block in it does; what follows it is separated from it then
abbrev pub block_ends_blank : Bool → Kind → Bool
block_ends_blank inside was.blank_line = true
block_ends_blank inside (was.indented_leaf lines) = last_is_blank lines
block_ends_blank inside (was.list_container marker) = inside
block_ends_blank inside (was.item_container indent) = inside
block_ends_blank inside (was.footnote_container label) = inside
block_ends_blank inside other = false

-- the last of some blocks ends with a blank line
abbrev pub ends_blank : Bool → Forest Block → Bool
ends_blank before nil = before
ends_blank before (node b below after) = ends_blank (block_ends_blank (ends_blank false below) b.kind) after

-- there is a block among them, and not only blank lines
abbrev pub holds_block : Forest Block → Bool
holds_block nil = false
holds_block (node b below after) = not (is_blank_block b.kind) || holds_block after

-- two of these blocks have a blank line between them
abbrev pub are_separated : Forest Block → Bool
are_separated nil = false
are_separated (node b below after) =
    (block_ends_blank (ends_blank false below) b.kind && holds_block after) || are_separated after

-- an item directly contains two blocks with a blank line between them
abbrev pub hold_separated : Forest Block → Bool
hold_separated nil = false
hold_separated (node b below after) = are_separated below || hold_separated after

-- a list is loose (5.3)
abbrev pub is_loose : Forest Block → Bool
is_loose items = are_separated items || hold_separated items

-- a block of a body, and of the text that it refers to
abbrev pub shown_over : ℕ → ℕ → ItemBody → Option (List ℕ) → Forest Shown → Forest Shown
shown_over start end b text below =
    node (record {
      item = record { start = start; end = end; body = b };
      text = text;
      heading = None;
      alignments = [];
    }) below nil

-- cells of a row, with their items
abbrev pub shown_cells : Source → List Cell → Forest Shown
shown_cells s [] = nil
shown_cells s (cell ∷ cells) =
    node (plain_item cell.start cell.end body.TableCell)
    (chain_of (cell_items s.text (item_syntax s.syntax) cell.from cell.to)) (shown_cells s cells)

-- empty cells at a byte offset
abbrev pub empty_cells : ℕ → ℕ → Forest Shown
empty_cells zero at = nil
empty_cells (suc count) at = node (plain_item at at body.TableCell) nil (empty_cells count at)

-- the cells of a row of a table of this many columns: those beyond them are dropped, and those that it lacks are empty
-- ones at its end
abbrev pub cells_shown : Source → (columns : ℕ) → SourceLine → Forest Shown
cells_shown s columns l =
    followed_by (shown_cells s (take columns (cells_of l))) (empty_cells (cells_added columns l) l.next)

abbrev pub shown_row : Source → (columns : ℕ) → ItemBody → SourceLine → Forest Shown
shown_row s columns b l = shown_over l.left.scanned l.next b None (cells_shown s columns l)

abbrev pub shown_rows : Source → (columns : ℕ) → List SourceLine → Forest Shown
shown_rows s columns [] = nil
shown_rows s columns (l ∷ rows) = followed_by (shown_row s columns body.TableRow l) (shown_rows s columns rows)

abbrev pub shown_table : Source → (start end : ℕ) → SourceLine → List Alignment → List SourceLine → Forest Shown
shown_table s start end head alignments rows =
    node (record {
      item = record { start = start; end = end; body = body.Table (record { 0 = 0 }) };
      text = None;
      heading = None;
      alignments = alignments;
    })
    (followed_by (shown_row s (length alignments) body.TableHead head) (shown_rows s (length alignments) rows)) nil

-- What is around some blocks: whether they are directly in an item of a tight list; and where the first line of the
-- item ends that they are directly in, or 0.
pub record Around : Type 0 where
  pub tight : Bool
  pub marked : ℕ

-- no item is directly around some blocks
abbrev pub in_no_item : Around
in_no_item = record { tight = false; marked = 0 }

-- the items of a paragraph's lines, of which the first is `l`, after its task marker where it has one
abbrev pub items_after_task : Source → SourceLine → List SourceLine → Option Bool → List Shown
items_after_task s l lines None = lines_items s.text (item_syntax s.syntax) (l ∷ lines)
items_after_task s l lines (Some done) =
    plain_item l.left.scanned (l.left.scanned + 3) (body.TaskListMarker done)
    ∷ lines_items s.text (item_syntax s.syntax) (without_empty (past_task l ∷ lines))

-- the same; only on the line of an item's marker may there be a task marker
abbrev pub paragraph_items : Source → (marked : ℕ) → List SourceLine → List Shown
paragraph_items s marked [] = []
paragraph_items s marked (l ∷ lines) =
    items_after_task s l lines (if l.next == marked then task_read s.syntax l.left.bytes else None)

-- a paragraph, without the definitions at its beginning; nothing where there is nothing else
abbrev pub shown_text : Source → (marked : ℕ) → Block → ItemBody → List SourceLine → Forest Shown
shown_text s marked b leaf [] = nil
shown_text s marked b leaf (l ∷ lines) =
    shown_over l.left.scanned b.last leaf None (chain_of (paragraph_items s marked (l ∷ lines)))

-- a heading of a level from one byte offset up to another, with attributes where there are braces
abbrev pub shown_heading : Source → ℕ → ℕ → HeadingLevel → Option Braces → Forest Shown → Forest Shown
shown_heading s start end level None below = shown_over start end (body.Heading level None) None below
shown_heading s start end level (Some braces) below =
    node (record {
      item = record { start = start; end = end; body = body.Heading level (Some (record { 0 = 1 })) };
      text = None;
      heading = Some (heading_of_words level (words_in s.text braces));
      alignments = [];
    }) below nil

-- the braces at the end of the last line of a setext heading, where attributes are read, by byte offsets
abbrev pub last_braces : Syntax → List SourceLine → Option Braces
last_braces syntax [] = None
last_braces syntax (l ∷ []) =
    if syntax.attributes then option_map (braces_from l.left.scanned) (braces_in l.left.bytes) else None
last_braces syntax (l ∷ m ∷ lines) = last_braces syntax (m ∷ lines)

-- lines, of which the last is cut off at the `{`
abbrev pub cut_before_braces : Option Braces → SourceLine → SourceLine
cut_before_braces None l = l
cut_before_braces (Some braces) l =
    record l { left = record l.left { bytes = take (braces.opening - l.left.scanned) l.left.bytes } }

abbrev pub before_braces : Option Braces → List SourceLine → List SourceLine
before_braces braces [] = []
before_braces braces (l ∷ []) = cut_before_braces braces l ∷ []
before_braces braces (l ∷ m ∷ lines) = l ∷ before_braces braces (m ∷ lines)

-- a setext heading, without the definitions at its beginning
abbrev pub shown_setext : Source → (marked : ℕ) → Block → HeadingLevel → List SourceLine → Forest Shown
shown_setext s marked b level [] = nil
shown_setext s marked b level (l ∷ lines) =
    let braces = last_braces s.syntax (l ∷ lines) in
    shown_heading s l.left.scanned b.last level braces
    (chain_of (paragraph_items s marked (before_braces braces (l ∷ lines))))

abbrev pub paragraph_body : Bool → ItemBody
paragraph_body tight = if tight then body.TightParagraph else body.Paragraph

-- an info string, with escapes and entities replaced (4.5)
abbrev pub info_of : Source → OpeningFence → List ℕ
info_of s opening =
    unescaped (entity_names s.syntax) false (slice_range s.text opening.from opening.to)

-- One block; `below` are the blocks in it, `inside` what they become by what is around them, `end` where it ends, and
-- `around` what is around it.
abbrev pub shown_block : Source → Around → Block → ℕ → Forest Block → (Around → Forest Shown) → Kind → Forest Shown
shown_block s around b end below inside was.blank_line = nil
shown_block s around b end below inside (was.paragraph_leaf lines) =
    shown_text s around.marked b (paragraph_body around.tight) (divided (entity_names s.syntax) s.text lines).lines
shown_block s around b end below inside (was.underlined_leaf level lines) =
    shown_setext s around.marked b level (divided (entity_names s.syntax) s.text lines).lines
shown_block s around b end below inside (was.heading_leaf found) =
    shown_heading s b.start end found.level found.braces
    (chain_of (content_items s.text (item_syntax s.syntax) found.from found.to))
shown_block s around b end below inside was.break_leaf = shown_over b.start end body.Rule None nil
shown_block s around b end below inside (was.indented_leaf lines) =
    shown_over b.start end body.IndentCodeBlock None (chain_of (source_lines (body.Text false) (code_lines lines)))
shown_block s around b end below inside (was.fenced_leaf opening closed lines) =
    shown_over b.start end (body.FencedCodeBlock (record { 0 = 0 })) (Some (info_of s opening))
    (chain_of (source_lines (body.Text false) lines))
shown_block s around b end below inside (was.html_leaf kind closed lines) =
    shown_over b.start end body.HtmlBlock None (chain_of (source_lines body.Html lines))
shown_block s around b end below inside (was.metadata_leaf kind closed lines) =
    shown_over b.start end (body.MetadataBlock kind) None (chain_of (source_lines (body.Text false) lines))
shown_block s around b end below inside (was.table_leaf ended head alignments rows) =
    shown_table s b.start end head alignments rows
shown_block s around b end below inside was.quote_container =
    shown_over b.start end (body.BlockQuote None) None (inside in_no_item)
shown_block s around b end below inside (was.alert_container kind) =
    shown_over b.start end (body.BlockQuote (Some kind)) None (inside in_no_item)
shown_block s around b end below inside (was.list_container marker) =
    shown_over b.start end (body.List (not (is_loose below)) marker.character marker.first) None
    (inside (record { tight = not (is_loose below); marked = 0 }))
shown_block s around b end below inside (was.item_container indent) =
    shown_over b.start end (body.ListItem indent) None (inside (record { tight = around.tight; marked = b.first }))
shown_block s around b end below inside (was.footnote_container label) =
    shown_over b.start end (body.FootnoteDefinition (record { 0 = 0 })) (Some label) (inside in_no_item)

-- the items of some blocks
unfoldable pub shown_blocks : Source → Around → Forest Block → Forest Shown
shown_blocks s around nil = nil
shown_blocks s around (node b below after) =
    followed_by (shown_block s around b (block_end b (last_end b.first below) b.kind) below
    (λ inside. shown_blocks s inside below) b.kind) (shown_blocks s around after)

-- the lines of a paragraph, or of a heading that one became
abbrev pub paragraph_lines : Kind → List SourceLine
paragraph_lines (was.paragraph_leaf lines) = lines
paragraph_lines (was.underlined_leaf level lines) = lines
paragraph_lines other = []

-- the definitions of some blocks, in the order of the text
unfoldable pub definitions_in : Source → Forest Block → List Definition
definitions_in s nil = []
definitions_in s (node b below after) =
    (divided (entity_names s.syntax) s.text (paragraph_lines b.kind)).definitions
    ++ (definitions_in s below ++ definitions_in s after)

abbrev pub label_of : Kind → List (List ℕ)
label_of (was.footnote_container label) = label ∷ []
label_of other = []

-- the labels of the footnote definitions among some blocks, in the order of the text
unfoldable pub footnotes_in : Forest Block → List (List ℕ)
footnotes_in nil = []
footnotes_in (node b below after) = label_of b.kind ++ (footnotes_in below ++ footnotes_in after)

-- the tree of a text's blocks
abbrev pub block_tree : Source → Forest Shown
block_tree s = shown_blocks s in_no_item (blocks_of s)

abbrev pub block_definitions : Source → List Definition
block_definitions s = definitions_in s (blocks_of s)

abbrev pub block_footnotes : Source → List (List ℕ)
block_footnotes s = footnotes_in (blocks_of s)
