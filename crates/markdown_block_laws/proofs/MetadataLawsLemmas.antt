-- Where metadata is, and what it contains.
use Rattle.std.proofs.Common.{◌≡◌, ℕ, zero, suc, Bool, true, false, not, ◌==◌, List, [], ◌∷◌, Option, Some, None, refl}
use Rattle.std.proofs.Common.{sym, ap, ◌∙◌, subst, length, nat_lt, take}
use Rattle.std.proofs.lemmas.Bool.{or_from, or_parts, true≢false}
use Rattle.std.specs.Prelude.{⊤, if◌then◌else◌}
use Rattle.std.specs.List.{AllByRecursion}
use Rattle.markdown_base.proofs.ForestLemmas.{All-append, All-weaker}
use Rattle.markdown_base.specs.Forest.{Forest, Throughout, nil, node}
use Rattle.markdown_base.specs.declared.item.ItemBody.{ItemBody}
use Rattle.markdown_base.specs.declared.item.ItemBody.TheVariants as body
use Rattle.markdown_base.specs.declared.tag.Alignment.{Alignment}
use Rattle.markdown_base.specs.declared.tag.HeadingLevel.{HeadingLevel}
use Rattle.markdown_items.specs.LineItems.{item_syntax}
use Rattle.markdown_base.specs.Source.{Source}
use Rattle.markdown_lines.specs.DefinitionRules.{divided}
use Rattle.markdown_lines.specs.HeadingAttributes.{heading_of_words, words_in}
use Rattle.markdown_lines.specs.SourceLines.{SourceLine, without_empty}
use Rattle.markdown_lines.specs.TaskMarkers.{past_task, task_read}
use Rattle.markdown_lines.specs.declared.braces.Braces.{Braces}
use Rattle.markdown_lines.specs.declared.table_row.Cell.{Cell}
use Rattle.markdown_scan.specs.Entity.{entity_names}
use Rattle.markdown_block_rules.specs.BlockGrowth as was
use Rattle.markdown_block_rules.specs.BlockGrowth.{Block, Kind, blocks_of}
use Rattle.markdown_block_rules.specs.BlockRules.{Around, before_braces, block_end, cells_shown, code_lines}
use Rattle.markdown_block_rules.specs.BlockRules.{empty_cells, in_no_item, info_of, is_loose, items_after_task}
use Rattle.markdown_block_rules.specs.BlockRules.{last_braces, last_end, paragraph_body, paragraph_items, shown_block}
use Rattle.markdown_block_rules.specs.BlockRules.{shown_blocks, shown_cells, shown_heading, shown_row, shown_rows}
use Rattle.markdown_block_rules.specs.BlockRules.{shown_setext, shown_table, shown_text}
use Rattle.markdown_block_rules.specs.LineContents.{cell_items, lines_items, source_line, source_lines}
use Rattle.markdown_block_laws.specs.MetadataLaws.{AreTexts, KeepsMetadataOutermost, MetadataIsOutermost, has_metadata}
use Rattle.markdown_block_laws.specs.MetadataLaws.{is_metadata, is_text_item}
use Rattle.markdown_block_rules.specs.TableLines.{cells_added, cells_of}
use Rattle.markdown_block_rules.proofs.BlockBeginningsLemmas.{either}
use Rattle.markdown_block_rules.proofs.GrowthLemmas.{Fresh, Held, KindGrows, fenced_more, html_more, indented_more}
use Rattle.markdown_block_rules.proofs.GrowthLemmas.{metadata_closed, metadata_more, row_more, text_more, underlined}
use Rattle.markdown_block_rules.proofs.InlineItemsLemmas.{AreUnmarked, cell_unmarked, content_unmarked, is_marked}
use Rattle.markdown_block_rules.proofs.InlineItemsLemmas.{lines_unmarked, source_unmarked}
use Rattle.markdown_block_laws.proofs.KeptLemmas.{IsKept, IsWhole, text_held, text_whole}
use Rattle.markdown_builder.specs.TreeLevels.{followed_by}
use Rattle.markdown_builder.specs.Shown.{Shown, chain_of, plain_item}
use Rattle.markdown_items.specs.ContentItems.{content_items}

-- Metadata contains texts, and is nowhere but among the outermost items, where these are directly under the root.
record Keeps (top : Bool) (f : Forest Shown) : Type 0 where
  each : Throughout KeepsMetadataOutermost f
  none : top ≡ false → has_metadata f ≡ false

none_kept : (top : Bool) → Keeps top nil
none_kept top = record { each = tt; none = λ inner. refl }

-- a first item more, which is not metadata, or is directly under the root
one_more : (top : Bool) (a : Shown) (below after : Forest Shown) → (top ≡ false → is_metadata a.item.body ≡ false)
    → (is_metadata a.item.body ≡ true → AreTexts below) → Keeps false below → Keeps top after
    → Keeps top (node a below after)
one_more top a below after other texts inner rest = record {
  each = (record { outermost = inner.none refl; texts = texts }, inner.each, rest.each);
  none = λ inside. or_from (is_metadata a.item.body) (has_metadata after) (other inside) (rest.none inside);
}

one_around : (top : Bool) (a : Shown) (below after : Forest Shown) → is_metadata a.item.body ≡ false
    → Keeps false below → Keeps top after → Keeps top (node a below after)
one_around top a below after other inner rest =
    one_more top a below after (λ inside. other) (λ is. absurd (true≢false (sym is ∙ other))) inner rest

-- items behind others
no_metadata_joined : (f g : Forest Shown) → has_metadata f ≡ false → has_metadata g ≡ false
    → has_metadata (followed_by f g) ≡ false
no_metadata_joined nil g first second = second
no_metadata_joined (node a below after) g first second =
    let parts = or_parts (is_metadata a.item.body) (has_metadata after) first in
    or_from (is_metadata a.item.body) (has_metadata (followed_by after g)) parts.0
    (no_metadata_joined after g parts.1 second)

each_joined : (f g : Forest Shown) → Throughout KeepsMetadataOutermost f → Throughout KeepsMetadataOutermost g
    → Throughout KeepsMetadataOutermost (followed_by f g)
each_joined nil g first second = second
each_joined (node a below after) g first second =
    (record { outermost = first.0.outermost; texts = first.0.texts }, first.1, each_joined after g first.2 second)

joined : (top : Bool) (f g : Forest Shown) → Keeps top f → Keeps top g → Keeps top (followed_by f g)
joined top f g first second = record {
  each = each_joined f g first.each second.each;
  none = λ inner. no_metadata_joined f g (first.none inner) (second.none inner);
}

-- inline items
abbrev AreOther : List Shown → Type 0
AreOther items = AllByRecursion (λ (a : Shown). is_metadata a.item.body ≡ false) items

other_body : (b : ItemBody) → is_marked b ≡ false → is_metadata b ≡ false
other_body (body.MetadataBlock kind) is = is
other_body other is = refl

others : (items : List Shown) → AreUnmarked items → AreOther items
others items none =
    All-weaker (λ (a : Shown). is_marked a.item.body ≡ false) (λ (a : Shown). is_metadata a.item.body ≡ false)
    (λ a is. other_body a.item.body is) items none

chain_kept : (top : Bool) (items : List Shown) → AreOther items → Keeps top (chain_of items)
chain_kept top [] each = none_kept top
chain_kept top (a ∷ items) each =
    one_around top a nil (chain_of items) each.0 (none_kept false) (chain_kept top items each.1)

-- an item that contains inline items
inline_kept : (top : Bool) (a : Shown) (items : List Shown) → is_metadata a.item.body ≡ false → AreOther items
    → Keeps top (node a (chain_of items) nil)
inline_kept top a items other each =
    one_around top a (chain_of items) nil other (chain_kept false items each) (none_kept top)

task_other : (s : Source) (l : SourceLine) (lines : List SourceLine) (task : Option Bool)
    → AreOther (items_after_task s l lines task)
task_other s l lines None =
    others (lines_items s.text (item_syntax s.syntax) (l ∷ lines))
    (lines_unmarked s.text (item_syntax s.syntax) (l ∷ lines))
task_other s l lines (Some done) =
    let rest = without_empty (past_task l ∷ lines) in (
      refl,
      others (lines_items s.text (item_syntax s.syntax) rest)
          (lines_unmarked s.text (item_syntax s.syntax) rest),
    )

items_other : (s : Source) (marked : ℕ) (lines : List SourceLine) → AreOther (paragraph_items s marked lines)
items_other s marked [] = tt
items_other s marked (l ∷ lines) =
    task_other s l lines (if l.next == marked then task_read s.syntax l.left.bytes else None)

-- blocks of text
paragraph_kept : (s : Source) (top : Bool) (around : Around) (b : Block) (lines : List SourceLine)
    → Keeps top (shown_text s around.marked b (paragraph_body around.tight) lines)
paragraph_kept s top around b [] = none_kept top
paragraph_kept s top around b (l ∷ lines) =
    inline_kept top (plain_item l.left.scanned b.last (paragraph_body around.tight))
    (paragraph_items s around.marked (l ∷ lines)) (is_other around.tight) (items_other s around.marked (l ∷ lines))
  where
    is_other : (tight : Bool) → is_metadata (paragraph_body tight) ≡ false
    is_other true = refl
    is_other false = refl

heading_kept : (s : Source) (top : Bool) (start end : ℕ) (level : HeadingLevel) (braces : Option Braces)
    (items : List Shown) → AreOther items → Keeps top (shown_heading s start end level braces (chain_of items))
heading_kept s top start end level None items each =
    inline_kept top (plain_item start end (body.Heading level None)) items refl each
heading_kept s top start end level (Some braces) items each =
    inline_kept top (record {
      item = record { start = start; end = end; body = body.Heading level (Some (record { 0 = 1 })) };
      text = None;
      heading = Some (heading_of_words level (words_in s.text braces));
      alignments = [];
    }) items refl each

setext_kept : (s : Source) (top : Bool) (marked : ℕ) (b : Block) (level : HeadingLevel) (lines : List SourceLine)
    → Keeps top (shown_setext s marked b level lines)
setext_kept s top marked b level [] = none_kept top
setext_kept s top marked b level (l ∷ lines) =
    let braces = last_braces s.syntax (l ∷ lines) in
    let rest = before_braces braces (l ∷ lines) in
    heading_kept s top l.left.scanned b.last level braces (paragraph_items s marked rest) (items_other s marked rest)

-- tables
cells_kept : (s : Source) (cells : List Cell) → Keeps false (shown_cells s cells)
cells_kept s [] = none_kept false
cells_kept s (cell ∷ cells) =
    let items = cell_items s.text (item_syntax s.syntax) cell.from cell.to in
    one_around false (plain_item cell.start cell.end body.TableCell) (chain_of items) (shown_cells s cells) refl
    (chain_kept false items (others items (cell_unmarked s.text (item_syntax s.syntax) cell.from cell.to)))
    (cells_kept s cells)

empty_kept : (count at : ℕ) → Keeps false (empty_cells count at)
empty_kept zero at = none_kept false
empty_kept (suc count) at =
    one_around false (plain_item at at body.TableCell) nil (empty_cells count at) refl (none_kept false)
    (empty_kept count at)

row_kept : (s : Source) (columns : ℕ) (b : ItemBody) (l : SourceLine) → is_metadata b ≡ false
    → Keeps false (shown_row s columns b l)
row_kept s columns b l other =
    one_around false (plain_item l.left.scanned l.next b) (cells_shown s columns l) nil other
    (joined false (shown_cells s (take columns (cells_of l))) (empty_cells (cells_added columns l) l.next)
    (cells_kept s (take columns (cells_of l))) (empty_kept (cells_added columns l) l.next)) (none_kept false)

rows_kept : (s : Source) (columns : ℕ) (rows : List SourceLine) → Keeps false (shown_rows s columns rows)
rows_kept s columns [] = none_kept false
rows_kept s columns (l ∷ rows) =
    joined false (shown_row s columns body.TableRow l) (shown_rows s columns rows)
    (row_kept s columns body.TableRow l refl) (rows_kept s columns rows)

table_kept : (s : Source) (top : Bool) (start end : ℕ) (head : SourceLine) (alignments : List Alignment)
    (rows : List SourceLine) → Keeps top (shown_table s start end head alignments rows)
table_kept s top start end head alignments rows =
    let columns = length alignments in
    one_around top (record {
      item = record { start = start; end = end; body = body.Table (record { 0 = 0 }) };
      text = None;
      heading = None;
      alignments = alignments;
    })
    (followed_by (shown_row s columns body.TableHead head) (shown_rows s columns rows)) nil refl
    (joined false (shown_row s columns body.TableHead head) (shown_rows s columns rows)
    (row_kept s columns body.TableHead head refl) (rows_kept s columns rows)) (none_kept top)

-- lines of code or of HTML
lines_kept : (top : Bool) (a : Shown) (b : ItemBody) (lines : List SourceLine) → is_metadata a.item.body ≡ false
    → is_marked b ≡ false → Keeps top (node a (chain_of (source_lines b lines)) nil)
lines_kept top a b lines other is =
    inline_kept top a (source_lines b lines) other (others (source_lines b lines) (source_unmarked b lines is))

-- lines of metadata, which owe no column of a tab
abbrev OweNothing : List SourceLine → Type 0
OweNothing lines = AllByRecursion (λ (l : SourceLine). l.left.owed ≡ 0) lines

abbrev AreAllTexts : List Shown → Type 0
AreAllTexts items = AllByRecursion (λ (a : Shown). is_text_item a.item.body ≡ true) items

line_texts : (l : SourceLine) → l.left.owed ≡ 0 → AreAllTexts (source_line (body.Text false) l)
line_texts l none =
    let start = l.left.scanned in
    let item = plain_item start l.next (body.Text false) in
    rw none (either AreAllTexts (nat_lt start l.next) (item ∷ []) [] (refl, tt) tt)

lines_texts : (lines : List SourceLine) → OweNothing lines → AreAllTexts (source_lines (body.Text false) lines)
lines_texts [] each = tt
lines_texts (l ∷ lines) each =
    All-append (λ (a : Shown). is_text_item a.item.body ≡ true) (source_line (body.Text false) l)
    (source_lines (body.Text false) lines) (line_texts l each.0) (lines_texts lines each.1)

chain_texts : (items : List Shown) → AreAllTexts items → AreTexts (chain_of items)
chain_texts [] each = tt
chain_texts (a ∷ items) each = (each.0, refl, chain_texts items each.1)

-- metadata is directly under the root, and its lines owe nothing
abbrev IsOutermost : Bool → Kind → Type 0
IsOutermost top (was.metadata_leaf kind closed lines) = (top ≡ true) × OweNothing lines
IsOutermost top other = ⊤

metadata_kept : (top : Bool) (a : Shown) (lines : List SourceLine) → top ≡ true → OweNothing lines
    → Keeps top (node a (chain_of (source_lines (body.Text false) lines)) nil)
metadata_kept top a lines outermost each =
    let items = source_lines (body.Text false) lines in
    one_more top a (chain_of items) nil (λ inner. absurd (true≢false (sym outermost ∙ inner)))
    (λ is. chain_texts items (lines_texts lines each))
    (chain_kept false items (others items (source_unmarked (body.Text false) lines refl))) (none_kept top)

-- one block, from what the blocks in it become
block_kept : (s : Source) (top : Bool) (around : Around) (b : Block) (end : ℕ) (below : Forest Block)
    (inside : Around → Forest Shown) → ((around : Around) → Keeps false (inside around)) → (kind : Kind)
    → IsOutermost top kind → Keeps top (shown_block s around b end below inside kind)
block_kept s top around b end below inside kept was.blank_line is = none_kept top
block_kept s top around b end below inside kept (was.paragraph_leaf lines) is =
    paragraph_kept s top around b (divided (entity_names s.syntax) s.text lines).lines
block_kept s top around b end below inside kept (was.underlined_leaf level lines) is =
    setext_kept s top around.marked b level (divided (entity_names s.syntax) s.text lines).lines
block_kept s top around b end below inside kept (was.heading_leaf found) is =
    let items = content_items s.text (item_syntax s.syntax) found.from found.to in
    heading_kept s top b.start end found.level found.braces items
    (others items (content_unmarked s.text (item_syntax s.syntax) found.from found.to))
block_kept s top around b end below inside kept was.break_leaf is =
    one_around top (plain_item b.start end body.Rule) nil nil refl (none_kept false) (none_kept top)
block_kept s top around b end below inside kept (was.indented_leaf lines) is =
    lines_kept top (plain_item b.start end body.IndentCodeBlock) (body.Text false) (code_lines lines) refl refl
block_kept s top around b end below inside kept (was.fenced_leaf opening closed lines) is =
    lines_kept top (record {
      item = record { start = b.start; end = end; body = body.FencedCodeBlock (record { 0 = 0 }) };
      text = Some (info_of s opening);
      heading = None;
      alignments = [];
    }) (body.Text false) lines refl refl
block_kept s top around b end below inside kept (was.html_leaf kind closed lines) is =
    lines_kept top (plain_item b.start end body.HtmlBlock) body.Html lines refl refl
block_kept s top around b end below inside kept (was.metadata_leaf kind closed lines) is =
    metadata_kept top (plain_item b.start end (body.MetadataBlock kind)) lines is.0 is.1
block_kept s top around b end below inside kept (was.table_leaf ended head alignments rows) is =
    table_kept s top b.start end head alignments rows
block_kept s top around b end below inside kept was.quote_container is =
    one_around top (plain_item b.start end (body.BlockQuote None)) (inside in_no_item) nil refl (kept in_no_item)
    (none_kept top)
block_kept s top around b end below inside kept (was.alert_container kind) is =
    one_around top (plain_item b.start end (body.BlockQuote (Some kind))) (inside in_no_item) nil refl
    (kept in_no_item) (none_kept top)
block_kept s top around b end below inside kept (was.list_container marker) is =
    let items : Around = record { tight = not (is_loose below); marked = 0 } in
    one_around top (plain_item b.start end (body.List (not (is_loose below)) marker.character marker.first))
    (inside items) nil refl (kept items) (none_kept top)
block_kept s top around b end below inside kept (was.item_container indent) is =
    let blocks : Around = record { tight = around.tight; marked = b.first } in
    one_around top (plain_item b.start end (body.ListItem indent)) (inside blocks) nil refl (kept blocks)
    (none_kept top)
block_kept s top around b end below inside kept (was.footnote_container label) is =
    one_around top (record {
      item = record { start = b.start; end = end; body = body.FootnoteDefinition (record { 0 = 0 }) };
      text = Some label;
      heading = None;
      alignments = [];
    }) (inside in_no_item) nil refl (kept in_no_item) (none_kept top)

blocks_kept : (s : Source) (top : Bool) (blocks : Forest Block) → Held IsOutermost top blocks → (around : Around)
    → Keeps top (shown_blocks s around blocks)
unfolding shown_blocks
blocks_kept s top nil held around = none_kept top
blocks_kept s top (node b below after) held around =
    let end = block_end b (last_end b.first below) b.kind in
    joined top (shown_block s around b end below (λ inside. shown_blocks s inside below) b.kind)
    (shown_blocks s around after)
    (block_kept s top around b end below (λ inside. shown_blocks s inside below)
    (λ inside. blocks_kept s false below held.1 inside) b.kind held.0) (blocks_kept s top after held.2 around)

-- what lines make keeps metadata there
fresh_outermost : (l : SourceLine) (top : Bool) (kind : Kind) → Fresh l.next top kind → IsOutermost top kind
fresh_outermost l top (was.metadata_leaf kind closed lines) fresh = (fresh.0, subst OweNothing (sym fresh.1) tt)
fresh_outermost l top other fresh = tt

grows_outermost : (l : SourceLine) → l.left.owed ≡ 0 → (top : Bool) (kind grown : Kind) → KindGrows l top kind grown
    → IsOutermost top kind → IsOutermost top grown
grows_outermost l owes top _ _ (text_more lines m next) is = tt
grows_outermost l owes top _ _ (underlined level lines) is = tt
grows_outermost l owes top _ _ (indented_more lines more) is = tt
grows_outermost l owes top _ _ (fenced_more opening closed after lines more) is = tt
grows_outermost l owes top _ _ (html_more html closed after lines more) is = tt
grows_outermost l owes top _ _ (metadata_more kind closed lines m same) is = (
  is.0,
  All-append (λ (m : SourceLine). m.left.owed ≡ 0) lines (m ∷ []) is.1
      (ap (λ (m : SourceLine). m.left.owed) (same is.0) ∙ owes, tt),
)
grows_outermost l owes top _ _ (metadata_closed kind closed lines) is = is
grows_outermost l owes top _ _ (row_more head alignments rows row) is = tt

ended_outermost : (top : Bool) (kind : Kind) → IsOutermost top kind → IsOutermost top (was.table_ended kind)
ended_outermost top (was.table_leaf ended head alignments rows) is = tt
ended_outermost top other is = is

outermost_kept : (s : Source) → IsKept s IsWhole IsOutermost
outermost_kept s = record {
  fresh = λ l whole. fresh_outermost l;
  grows = λ l whole. grows_outermost l whole.1;
  cut = λ top lines head is. tt;
  tables = λ top head row alignments reads fits. tt;
  ended = ended_outermost;
}

pub metadata_outermost : MetadataIsOutermost
metadata_outermost s =
    let held = text_held s IsWhole IsOutermost (outermost_kept s) (text_whole s.text) in
    (blocks_kept s true (blocks_of s) held in_no_item).each
