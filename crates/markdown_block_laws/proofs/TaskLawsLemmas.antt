-- Where task markers are.
use Rattle.std.proofs.Common.{◌≡◌, ℕ, zero, suc, ◌<◌, Bool, true, false, not, ◌==◌, List, [], ◌∷◌, Option, Some, None}
use Rattle.std.proofs.Common.{refl, sym, ◌∙◌, ◌-◌, arith, length, take, nat_le}
use Rattle.std.proofs.lemmas.Bool.{or_from, or_parts, true≢false}
use Rattle.std.proofs.lemmas.Bool.Decides.{nat_tests}
use Rattle.std.specs.Prelude.{⊤, if◌then◌else◌}
use Rattle.std.specs.List.{AllByRecursion}
use Rattle.markdown_base.proofs.ForestLemmas.{All-append, All-parted, All-weaker}
use Rattle.markdown_base.specs.Forest.{Forest, Throughout, nil, node}
use Rattle.markdown_base.specs.declared.item.ItemBody.{ItemBody}
use Rattle.markdown_base.specs.declared.item.ItemBody.TheVariants as body
use Rattle.markdown_base.specs.declared.tag.Alignment.{Alignment}
use Rattle.markdown_base.specs.declared.tag.HeadingLevel.{HeadingLevel}
use Rattle.markdown_items.specs.LineItems.{item_syntax}
use Rattle.markdown_base.specs.Source.{Source}
use Rattle.markdown_lines.specs.DefinitionRules.{Defined, Divided, definition_in, divided, divided_in, lines_behind}
use Rattle.markdown_lines.specs.DefinitionRules.{more_definitions, text_of_lines}
use Rattle.markdown_lines.specs.HeadingAttributes.{heading_of_words, words_in}
use Rattle.markdown_lines.specs.SourceLines.{SourceLine, without_empty}
use Rattle.markdown_lines.specs.TaskMarkers.{past_task, task_read}
use Rattle.markdown_lines.specs.declared.braces.Braces.{Braces}
use Rattle.markdown_lines.specs.declared.table_row.Cell.{Cell}
use Rattle.markdown_scan.specs.Entity.{entity_names}
use Rattle.markdown_scan.specs.declared.entity.EntityNames.{EntityNames}
use Rattle.markdown_block_rules.specs.BlockGrowth as was
use Rattle.markdown_block_rules.specs.BlockGrowth.{Block, Kind, blocks_of}
use Rattle.markdown_block_rules.specs.BlockRules.{Around, before_braces, block_end, cells_shown, code_lines}
use Rattle.markdown_block_rules.specs.BlockRules.{cut_before_braces, empty_cells, in_no_item, info_of, is_loose}
use Rattle.markdown_block_rules.specs.BlockRules.{items_after_task, last_braces, last_end, paragraph_body}
use Rattle.markdown_block_rules.specs.BlockRules.{paragraph_items, paragraph_lines, shown_block, shown_blocks}
use Rattle.markdown_block_rules.specs.BlockRules.{shown_cells, shown_heading, shown_row, shown_rows, shown_setext}
use Rattle.markdown_block_rules.specs.BlockRules.{shown_table, shown_text}
use Rattle.markdown_block_rules.specs.LineContents.{cell_items, lines_items, source_lines}
use Rattle.markdown_block_rules.specs.TableLines.{cells_added, cells_of}
use Rattle.markdown_block_laws.specs.TaskLaws.{KeepsMarkersFirst, TaskMarkersComeFirst, has_marker, has_task}
use Rattle.markdown_block_laws.specs.TaskLaws.{is_list_item, is_of_text, is_task_marker}
use Rattle.markdown_block_rules.proofs.BlockBeginningsLemmas.{either}
use Rattle.markdown_block_rules.proofs.GrowthLemmas.{Fresh, Held, KindGrows, fenced_more, html_more, indented_more}
use Rattle.markdown_block_rules.proofs.GrowthLemmas.{metadata_closed, metadata_more, row_more, text_more, underlined}
use Rattle.markdown_block_rules.proofs.InlineItemsLemmas.{AreUnmarked, cell_unmarked, content_unmarked, is_marked}
use Rattle.markdown_block_rules.proofs.InlineItemsLemmas.{lines_unmarked, source_unmarked}
use Rattle.markdown_block_laws.proofs.KeptLemmas.{IsKept, IsWhole, text_held, text_whole}
use Rattle.markdown_builder.specs.TreeLevels.{followed_by}
use Rattle.markdown_builder.specs.Shown.{Shown, chain_of, plain_item}
use Rattle.markdown_items.specs.ContentItems.{content_items}

-- Items keep their markers first, none of the outermost is one, and where these are in no list item, whose first line
-- would end at `marked`, none of them directly contains one.
record Keeps (marked : ℕ) (f : Forest Shown) : Type 0 where
  each : Throughout KeepsMarkersFirst f
  no_marker : has_marker f ≡ false
  no_task : marked ≡ 0 → has_task f ≡ false

none_kept : (marked : ℕ) → Keeps marked nil
none_kept marked = record { each = tt; no_marker = refl; no_task = λ outside. refl }

-- a first item more
one_more : (marked : ℕ) (a : Shown) (below after : Forest Shown) → is_task_marker a.item.body ≡ false
    → Throughout KeepsMarkersFirst below → (has_marker below ≡ true → is_of_text a.item.body ≡ true)
    → (has_task below ≡ true → is_list_item a.item.body ≡ true) → (marked ≡ 0 → has_marker below ≡ false)
    → Keeps marked after → Keeps marked (node a below after)
one_more marked a below after other inner of_text in_item outside rest = record {
  each = (
    record {
      first = rest.no_marker;
      bare = λ is. absurd (true≢false (sym is ∙ other));
      of_text = of_text;
      in_item = in_item;
    },
    inner,
    rest.each,
  );
  no_marker = or_from (is_task_marker a.item.body) (has_marker after) other rest.no_marker;
  no_task = λ none. or_from (has_marker below) (has_task after) (outside none) (rest.no_task none);
}

-- one that contains items in no list item
one_around : (marked : ℕ) (a : Shown) (below after : Forest Shown) → is_task_marker a.item.body ≡ false
    → Keeps 0 below → Keeps marked after → Keeps marked (node a below after)
one_around marked a below after other inner rest =
    one_more marked a below after other inner.each (λ has. absurd (true≢false (sym has ∙ inner.no_marker)))
    (λ has. absurd (true≢false (sym has ∙ inner.no_task refl))) (λ none. inner.no_marker) rest

no_marker_joined : (f g : Forest Shown) → has_marker f ≡ false → has_marker g ≡ false
    → has_marker (followed_by f g) ≡ false
no_marker_joined nil g first second = second
no_marker_joined (node a below after) g first second =
    let parts = or_parts (is_task_marker a.item.body) (has_marker after) first in
    or_from (is_task_marker a.item.body) (has_marker (followed_by after g)) parts.0
    (no_marker_joined after g parts.1 second)

-- items behind others
joined : (marked : ℕ) (f g : Forest Shown) → Keeps marked f → Keeps marked g → Keeps marked (followed_by f g)
joined marked nil g first second = second
joined marked (node a below after) g first second =
    let here = first.each.0 in
    let tasks = λ (none : marked ≡ 0). or_parts (has_marker below) (has_task after) (first.no_task none) in
    let rest = joined marked after g (record {
      each = first.each.2;
      no_marker = here.first;
      no_task = λ none. (tasks none).1;
    }) second in
    one_more marked a below (followed_by after g)
    (or_parts (is_task_marker a.item.body) (has_marker after) first.no_marker).0 first.each.1
    here.of_text here.in_item (λ none. (tasks none).0) rest

-- inline items
unmarked : (b : ItemBody) → is_marked b ≡ false → is_task_marker b ≡ false
unmarked (body.TaskListMarker done) is = is
unmarked other is = refl

chain_kept : (items : List Shown) → AreUnmarked items → (marked : ℕ) → Keeps marked (chain_of items)
chain_kept [] none marked = none_kept marked
chain_kept (a ∷ items) none marked =
    one_around marked a nil (chain_of items) (unmarked a.item.body none.0) (none_kept 0)
    (chain_kept items none.1 marked)

-- those after the first
abbrev AreUnmarkedLater : List Shown → Type 0
AreUnmarkedLater [] = ⊤
AreUnmarkedLater (a ∷ items) = AreUnmarked items

later_unmarked : (items : List Shown) → AreUnmarked items → AreUnmarkedLater items
later_unmarked [] none = tt
later_unmarked (a ∷ items) none = none.1

first_kept : (items : List Shown) → AreUnmarkedLater items → Throughout KeepsMarkersFirst (chain_of items)
first_kept [] none = tt
first_kept (a ∷ items) none =
    let rest = chain_kept items none 0 in (
      record {
        first = rest.no_marker;
        bare = λ is. refl;
        of_text = λ has. absurd (true≢false (sym has));
        in_item = λ has. absurd (true≢false (sym has));
      },
      tt,
      rest.each,
    )

chain_has_none : (items : List Shown) → has_task (chain_of items) ≡ false
chain_has_none [] = refl
chain_has_none (a ∷ items) = chain_has_none items

-- a paragraph or a heading
text_kept : (marked : ℕ) (a : Shown) (items : List Shown) → is_task_marker a.item.body ≡ false
    → is_of_text a.item.body ≡ true → AreUnmarkedLater items → (marked ≡ 0 → AreUnmarked items)
    → Keeps marked (node a (chain_of items) nil)
text_kept marked a items other is rest none =
    one_more marked a (chain_of items) nil other (first_kept items rest) (λ has. is)
    (λ has. absurd (true≢false (sym has ∙ chain_has_none items)))
    (λ outside. (chain_kept items (none outside) 0).no_marker) (none_kept marked)

-- another line begins after the first byte of each line, or later
abbrev ArePositive : List SourceLine → Type 0
ArePositive lines = AllByRecursion (λ (l : SourceLine). 0 < l.next) lines

-- the items of a paragraph: only the first may be a task marker, and that only in a list item
task_later : (s : Source) (l : SourceLine) (lines : List SourceLine) (task : Option Bool)
    → AreUnmarkedLater (items_after_task s l lines task)
task_later s l lines None =
    later_unmarked (lines_items s.text (item_syntax s.syntax) (l ∷ lines))
    (lines_unmarked s.text (item_syntax s.syntax) (l ∷ lines))
task_later s l lines (Some done) =
    lines_unmarked s.text (item_syntax s.syntax) (without_empty (past_task l ∷ lines))

items_later : (s : Source) (marked : ℕ) (lines : List SourceLine) → AreUnmarkedLater (paragraph_items s marked lines)
items_later s marked [] = tt
items_later s marked (l ∷ lines) =
    task_later s l lines (if l.next == marked then task_read s.syntax l.left.bytes else None)

not_zero : (n m : ℕ) → 0 < n → m ≡ 0 → (n == m) ≡ false
not_zero n m some none = grind (arith, nat_tests)

items_unmarked : (s : Source) (marked : ℕ) (lines : List SourceLine) → ArePositive lines → marked ≡ 0
    → AreUnmarked (paragraph_items s marked lines)
items_unmarked s marked [] each none = tt
items_unmarked s marked (l ∷ lines) each none =
    rw (not_zero l.next marked each.0 none) (lines_unmarked s.text (item_syntax s.syntax) (l ∷ lines))

-- the lines after the definitions of a paragraph
behind_positive : (lines : List SourceLine) (count : ℕ) → ArePositive lines → ArePositive (lines_behind lines count)
behind_positive [] count each = tt
behind_positive (l ∷ lines) count each =
    let size = l.next - l.left.scanned in
    either ArePositive (nat_le count size) lines (lines_behind lines (count - size)) each.1
    (behind_positive lines (count - size) each.1)

more_positive : (rest : List SourceLine → Divided) (lines : List SourceLine) → ArePositive lines
    → ((lines : List SourceLine) → ArePositive lines → ArePositive (rest lines).lines) → (found : Option Defined)
    → ArePositive (more_definitions rest lines found).lines
more_positive rest lines each more None = each
more_positive rest lines each more (Some d) =
    more (lines_behind lines d.length) (behind_positive lines d.length each)

divided_positive : (names : EntityNames) (n : ℕ) (text : List ℕ) (lines : List SourceLine) → ArePositive lines
    → ArePositive (divided_in names n text lines).lines
unfolding divided_in
divided_positive names zero text lines each = each
divided_positive names (suc n) text lines each =
    more_positive (divided_in names n text) lines each (λ rest some. divided_positive names n text rest some)
    (definition_in names (text_of_lines text lines))

nonempty_positive : (lines : List SourceLine) → ArePositive lines → ArePositive (without_empty lines)
nonempty_positive [] each = tt
nonempty_positive (l ∷ lines) each =
    either ArePositive (length l.left.bytes == 0) lines (l ∷ lines) each.1 each

rest_positive : (s : Source) (lines : List SourceLine) → ArePositive lines
    → ArePositive (divided (entity_names s.syntax) s.text lines).lines
rest_positive s lines each =
    divided_positive (entity_names s.syntax) (length lines) s.text (without_empty lines)
    (nonempty_positive lines each)

-- blocks of text
paragraph_kept : (s : Source) (around : Around) (b : Block) (lines : List SourceLine) → ArePositive lines
    → Keeps around.marked (shown_text s around.marked b (paragraph_body around.tight) lines)
paragraph_kept s around b [] each = none_kept around.marked
paragraph_kept s around b (l ∷ lines) each =
    text_kept around.marked
    (plain_item l.left.scanned b.last (paragraph_body around.tight))
    (paragraph_items s around.marked (l ∷ lines)) (is_other around.tight) (is_text around.tight)
    (items_later s around.marked (l ∷ lines)) (items_unmarked s around.marked (l ∷ lines) each)
  where
    is_other : (tight : Bool) → is_task_marker (paragraph_body tight) ≡ false
    is_other true = refl
    is_other false = refl

    is_text : (tight : Bool) → is_of_text (paragraph_body tight) ≡ true
    is_text true = refl
    is_text false = refl

heading_kept : (s : Source) (marked start end : ℕ) (level : HeadingLevel) (braces : Option Braces)
    (items : List Shown) → AreUnmarkedLater items → (marked ≡ 0 → AreUnmarked items)
    → Keeps marked (shown_heading s start end level braces (chain_of items))
heading_kept s marked start end level None items rest none =
    text_kept marked (plain_item start end (body.Heading level None)) items refl refl rest none
heading_kept s marked start end level (Some braces) items rest none =
    text_kept marked (record {
      item = record { start = start; end = end; body = body.Heading level (Some (record { 0 = 1 })) };
      text = None;
      heading = Some (heading_of_words level (words_in s.text braces));
      alignments = [];
    }) items refl refl rest none

cut_positive : (braces : Option Braces) (l : SourceLine) → 0 < l.next → 0 < (cut_before_braces braces l).next
cut_positive None l some = some
cut_positive (Some braces) l some = some

before_positive : (braces : Option Braces) (lines : List SourceLine) → ArePositive lines
    → ArePositive (before_braces braces lines)
before_positive braces [] each = tt
before_positive braces (l ∷ []) each = (cut_positive braces l each.0, tt)
before_positive braces (l ∷ m ∷ lines) each = (each.0, before_positive braces (m ∷ lines) each.1)

setext_kept : (s : Source) (marked : ℕ) (b : Block) (level : HeadingLevel) (lines : List SourceLine)
    → ArePositive lines → Keeps marked (shown_setext s marked b level lines)
setext_kept s marked b level [] each = none_kept marked
setext_kept s marked b level (l ∷ lines) each =
    let braces = last_braces s.syntax (l ∷ lines) in
    let rest = before_braces braces (l ∷ lines) in
    heading_kept s marked l.left.scanned b.last level braces (paragraph_items s marked rest)
    (items_later s marked rest) (items_unmarked s marked rest (before_positive braces (l ∷ lines) each))

-- tables
cells_kept : (s : Source) (cells : List Cell) → Keeps 0 (shown_cells s cells)
cells_kept s [] = none_kept 0
cells_kept s (cell ∷ cells) =
    let items = cell_items s.text (item_syntax s.syntax) cell.from cell.to in
    one_around 0 (plain_item cell.start cell.end body.TableCell) (chain_of items) (shown_cells s cells) refl
    (chain_kept items (cell_unmarked s.text (item_syntax s.syntax) cell.from cell.to) 0) (cells_kept s cells)

empty_kept : (count at : ℕ) → Keeps 0 (empty_cells count at)
empty_kept zero at = none_kept 0
empty_kept (suc count) at =
    one_around 0 (plain_item at at body.TableCell) nil (empty_cells count at) refl (none_kept 0) (empty_kept count at)

row_kept : (s : Source) (columns : ℕ) (b : ItemBody) (l : SourceLine) → is_task_marker b ≡ false
    → Keeps 0 (shown_row s columns b l)
row_kept s columns b l other =
    one_around 0 (plain_item l.left.scanned l.next b) (cells_shown s columns l) nil other
    (joined 0 (shown_cells s (take columns (cells_of l))) (empty_cells (cells_added columns l) l.next)
    (cells_kept s (take columns (cells_of l))) (empty_kept (cells_added columns l) l.next)) (none_kept 0)

rows_kept : (s : Source) (columns : ℕ) (rows : List SourceLine) → Keeps 0 (shown_rows s columns rows)
rows_kept s columns [] = none_kept 0
rows_kept s columns (l ∷ rows) =
    joined 0 (shown_row s columns body.TableRow l) (shown_rows s columns rows)
    (row_kept s columns body.TableRow l refl) (rows_kept s columns rows)

table_kept : (s : Source) (marked start end : ℕ) (head : SourceLine) (alignments : List Alignment)
    (rows : List SourceLine) → Keeps marked (shown_table s start end head alignments rows)
table_kept s marked start end head alignments rows =
    let columns = length alignments in
    one_around marked (record {
      item = record { start = start; end = end; body = body.Table (record { 0 = 0 }) };
      text = None;
      heading = None;
      alignments = alignments;
    })
    (followed_by (shown_row s columns body.TableHead head) (shown_rows s columns rows)) nil refl
    (joined 0 (shown_row s columns body.TableHead head) (shown_rows s columns rows)
    (row_kept s columns body.TableHead head refl) (rows_kept s columns rows)) (none_kept marked)

-- lines of code, of HTML or of metadata
lines_kept : (marked : ℕ) (a : Shown) (b : ItemBody) (lines : List SourceLine) → is_task_marker a.item.body ≡ false
    → is_marked b ≡ false → Keeps marked (node a (chain_of (source_lines b lines)) nil)
lines_kept marked a b lines other is =
    one_around marked a (chain_of (source_lines b lines)) nil other
    (chain_kept (source_lines b lines) (source_unmarked b lines is) 0) (none_kept marked)

-- one block, from what the blocks in it become
block_kept : (s : Source) (around : Around) (b : Block) (end : ℕ) (below : Forest Block)
    (inside : Around → Forest Shown) → ((around : Around) → Keeps around.marked (inside around)) → (kind : Kind)
    → ArePositive (paragraph_lines kind) → Keeps around.marked (shown_block s around b end below inside kind)
block_kept s around b end below inside kept was.blank_line each = none_kept around.marked
block_kept s around b end below inside kept (was.paragraph_leaf lines) each =
    paragraph_kept s around b (divided (entity_names s.syntax) s.text lines).lines (rest_positive s lines each)
block_kept s around b end below inside kept (was.underlined_leaf level lines) each =
    setext_kept s around.marked b level (divided (entity_names s.syntax) s.text lines).lines
    (rest_positive s lines each)
block_kept s around b end below inside kept (was.heading_leaf found) each =
    let items = content_items s.text (item_syntax s.syntax) found.from found.to in
    let none = content_unmarked s.text (item_syntax s.syntax) found.from found.to in
    heading_kept s around.marked b.start end found.level found.braces items (later_unmarked items none)
    (λ outside. none)
block_kept s around b end below inside kept was.break_leaf each =
    one_around around.marked (plain_item b.start end body.Rule) nil nil refl (none_kept 0) (none_kept around.marked)
block_kept s around b end below inside kept (was.indented_leaf lines) each =
    lines_kept around.marked (plain_item b.start end body.IndentCodeBlock) (body.Text false) (code_lines lines) refl
    refl
block_kept s around b end below inside kept (was.fenced_leaf opening closed lines) each =
    lines_kept around.marked (record {
      item = record { start = b.start; end = end; body = body.FencedCodeBlock (record { 0 = 0 }) };
      text = Some (info_of s opening);
      heading = None;
      alignments = [];
    }) (body.Text false) lines refl refl
block_kept s around b end below inside kept (was.html_leaf kind closed lines) each =
    lines_kept around.marked (plain_item b.start end body.HtmlBlock) body.Html lines refl refl
block_kept s around b end below inside kept (was.metadata_leaf kind closed lines) each =
    lines_kept around.marked (plain_item b.start end (body.MetadataBlock kind)) (body.Text false) lines refl refl
block_kept s around b end below inside kept (was.table_leaf ended head alignments rows) each =
    table_kept s around.marked b.start end head alignments rows
block_kept s around b end below inside kept was.quote_container each =
    one_around around.marked (plain_item b.start end (body.BlockQuote None)) (inside in_no_item) nil refl
    (kept in_no_item) (none_kept around.marked)
block_kept s around b end below inside kept (was.alert_container kind) each =
    one_around around.marked (plain_item b.start end (body.BlockQuote (Some kind))) (inside in_no_item) nil refl
    (kept in_no_item) (none_kept around.marked)
block_kept s around b end below inside kept (was.list_container marker) each =
    let items : Around = record { tight = not (is_loose below); marked = 0 } in
    one_around around.marked
    (plain_item b.start end (body.List (not (is_loose below)) marker.character marker.first)) (inside items) nil refl
    (kept items) (none_kept around.marked)
block_kept s around b end below inside kept (was.item_container indent) each =
    let blocks : Around = record { tight = around.tight; marked = b.first } in
    let inner = kept blocks in
    one_more around.marked (plain_item b.start end (body.ListItem indent)) (inside blocks) nil refl inner.each
    (λ has. absurd (true≢false (sym has ∙ inner.no_marker))) (λ has. refl) (λ outside. inner.no_marker)
    (none_kept around.marked)
block_kept s around b end below inside kept (was.footnote_container label) each =
    one_around around.marked (record {
      item = record { start = b.start; end = end; body = body.FootnoteDefinition (record { 0 = 0 }) };
      text = Some label;
      heading = None;
      alignments = [];
    }) (inside in_no_item) nil refl (kept in_no_item) (none_kept around.marked)

-- the lines of each paragraph are positive
abbrev HasPositive : Bool → Kind → Type 0
HasPositive top kind = ArePositive (paragraph_lines kind)

blocks_kept : (s : Source) (top : Bool) (blocks : Forest Block) → Held HasPositive top blocks → (around : Around)
    → Keeps around.marked (shown_blocks s around blocks)
unfolding shown_blocks
blocks_kept s top nil held around = none_kept around.marked
blocks_kept s top (node b below after) held around =
    let end = block_end b (last_end b.first below) b.kind in
    joined around.marked
    (shown_block s around b end below (λ inside. shown_blocks s inside below) b.kind) (shown_blocks s around after)
    (block_kept s around b end below (λ inside. shown_blocks s inside below)
    (λ inside. blocks_kept s false below held.1 inside) b.kind held.0) (blocks_kept s top after held.2 around)

-- what lines make keeps them so
fresh_positive : (l : SourceLine) → 0 < l.next → (top : Bool) (kind : Kind) → Fresh l.next top kind
    → HasPositive top kind
fresh_positive l some top (was.paragraph_leaf lines) fresh =
    All-weaker (λ (m : SourceLine). m.next ≡ l.next) (λ (m : SourceLine). 0 < m.next) (λ m same. omega arith) lines
    fresh
fresh_positive l some top (was.underlined_leaf level lines) fresh = absurd fresh
fresh_positive l some top other fresh = tt

grows_positive : (l : SourceLine) → 0 < l.next → (top : Bool) (kind grown : Kind) → KindGrows l top kind grown
    → HasPositive top kind → HasPositive top grown
grows_positive l some top _ _ (text_more lines m next) each =
    All-append (λ (m : SourceLine). 0 < m.next) lines (m ∷ []) each (omega arith, tt)
grows_positive l some top _ _ (underlined level lines) each = each
grows_positive l some top _ _ (indented_more lines more) each = tt
grows_positive l some top _ _ (fenced_more opening closed after lines more) each = tt
grows_positive l some top _ _ (html_more html closed after lines more) each = tt
grows_positive l some top _ _ (metadata_more kind closed lines m same) each = tt
grows_positive l some top _ _ (metadata_closed kind closed lines) each = tt
grows_positive l some top _ _ (row_more head alignments rows row) each = tt

ended_positive : (top : Bool) (kind : Kind) → HasPositive top kind → HasPositive top (was.table_ended kind)
ended_positive top (was.table_leaf ended head alignments rows) each = tt
ended_positive top other each = each

positive_kept : (s : Source) → IsKept s IsWhole HasPositive
positive_kept s = record {
  fresh = λ l whole. fresh_positive l whole.0;
  grows = λ l whole. grows_positive l whole.0;
  cut = λ top lines head each. (All-parted (λ (m : SourceLine). 0 < m.next) lines (head ∷ []) each).0;
  tables = λ top head row alignments reads fits. tt;
  ended = ended_positive;
}

pub markers_first : TaskMarkersComeFirst
markers_first s =
    let held = text_held s IsWhole HasPositive (positive_kept s) (text_whole s.text) in
    let kept = blocks_kept s true (blocks_of s) held in_no_item in
    (kept.each, kept.no_marker, kept.no_task refl)
