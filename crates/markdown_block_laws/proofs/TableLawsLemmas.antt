-- Where tables, their rows and their cells are, how many cells a row has, and where lists and their items are.
use Rattle.std.proofs.Common.{◌≡◌, ℕ, zero, suc, ◌+◌, Bool, true, false, not, ◌==◌, List, [], ◌∷◌, length, take, Option}
use Rattle.std.proofs.Common.{Some, None, refl, sym, ap, ◌∙◌, arith, length-take}
use Rattle.std.proofs.lemmas.Bool.{true≢false}
use Rattle.std.specs.Prelude.{IsTrue, if◌then◌else◌}
use Rattle.markdown_base.specs.Forest.{Each, Forest, Throughout, nil, node, roots}
use Rattle.markdown_base.specs.Item.{is_inline}
use Rattle.markdown_base.specs.declared.item.ItemBody.{ItemBody}
use Rattle.markdown_base.specs.declared.item.ItemBody.TheVariants as body
use Rattle.markdown_base.specs.declared.tag.Alignment.{Alignment}
use Rattle.markdown_base.specs.declared.tag.HeadingLevel.{HeadingLevel}
use Rattle.markdown_items.specs.ContentItems.{content_items}
use Rattle.markdown_items.specs.LineItems.{item_syntax}
use Rattle.markdown_base.specs.Source.{Source}
use Rattle.markdown_lines.specs.DefinitionRules.{divided}
use Rattle.markdown_lines.specs.HeadingAttributes.{heading_of_words, words_in}
use Rattle.markdown_lines.specs.SourceLines.{SourceLine, without_empty}
use Rattle.markdown_lines.specs.TaskMarkers.{past_task, task_read}
use Rattle.markdown_lines.specs.declared.braces.Braces.{Braces}
use Rattle.markdown_lines.specs.declared.table_row.Cell.{Cell}
use Rattle.markdown_scan.specs.Entity.{entity_names}
use Rattle.markdown_block_rules.specs.BlockGrowth as was
use Rattle.markdown_block_rules.specs.BlockGrowth.{Block, Kind, blocks_of}
use Rattle.markdown_block_rules.specs.BlockRules.{Around, before_braces, block_end, block_tree, cells_shown, code_lines}
use Rattle.markdown_block_rules.specs.BlockRules.{empty_cells, in_no_item, info_of, is_loose, items_after_task}
use Rattle.markdown_block_rules.specs.BlockRules.{last_braces, last_end, paragraph_body, paragraph_items, shown_block}
use Rattle.markdown_block_rules.specs.BlockRules.{shown_blocks, shown_cells, shown_heading, shown_rows, shown_setext}
use Rattle.markdown_block_rules.specs.BlockRules.{shown_table, shown_text}
use Rattle.markdown_block_rules.specs.LineContents.{cell_items, lines_items, source_lines}
use Rattle.markdown_block_laws.specs.TableLaws.{AreCells, AreRows, EachContains, KeepsRowsEven, RowsAreEven}
use Rattle.markdown_block_laws.proofs.ItemPlacesLemmas.{Fit, fits, holds_items, text_fit}
use Rattle.markdown_block_laws.specs.ItemsInPlace.{ItemsInPlace, ItemsOfTextsInPlace, is_list}
use Rattle.markdown_block_laws.specs.TaskLaws.{is_list_item}
use Rattle.markdown_block_laws.specs.TablesInPlace.{StandsOutside, TablesInPlace, TablesOfTextsInPlace}
use Rattle.markdown_block_rules.specs.TableLines.{cells_added, cells_of}
use Rattle.markdown_block_rules.proofs.InlineItemsLemmas.{AreUnmarked, cell_unmarked, content_unmarked, is_marked}
use Rattle.markdown_block_rules.proofs.InlineItemsLemmas.{lines_unmarked, source_unmarked, unmarked_inline}
use Rattle.markdown_builder.specs.EvenRows.{is_table}
use Rattle.markdown_builder.specs.Shown.{Shown, chain_of, plain_item}
use Rattle.markdown_builder.specs.TreeLevels.{followed_by}

abbrev Even : Forest Shown → Type 0
Even f = Throughout (λ a below after. KeepsRowsEven a below) f

-- what holds of items that are in no table, and are directly in a list or not
abbrev Keep : (in_list : Bool) → Forest Shown → Type 0
Keep in_list f = Even f × TablesInPlace f × ItemsInPlace in_list f

none_kept : Keep false nil
none_kept = (tt, tt, tt)

-- items behind others
joined : (in_list : Bool) (f g : Forest Shown) → Keep in_list f → Keep in_list g → Keep in_list (followed_by f g)
joined in_list nil g first second = second
joined in_list (node a below after) g first second =
    let rest = joined in_list after g (first.0.2, first.1.1, first.2.2) second in
    ((first.0.0, first.0.1, rest.0), (first.1.0, rest.1), (first.2.0, first.2.1, rest.2))

-- the body is that of a table, or of a head, a row or a cell of one
abbrev is_of_table : ItemBody → Bool
is_of_table (body.Table alignments) = true
is_of_table body.TableHead = true
is_of_table body.TableRow = true
is_of_table body.TableCell = true
is_of_table other = false

-- a first item more, which is no table
no_rows : (a : Shown) (below : Forest Shown) → is_table a.item.body ≡ false → KeepsRowsEven a below
no_rows a below other =
    record { rows = λ is. absurd (true≢false (sym is ∙ other)); even = λ is. absurd (true≢false (sym is ∙ other)) }

no_table : (b : ItemBody) → is_of_table b ≡ false → is_table b ≡ false
no_table (body.Table alignments) is = is
no_table other is = refl

outside : (b : ItemBody) (below : Forest Shown) (inner : Type 0) → is_of_table b ≡ false → inner
    → StandsOutside b below inner
outside (body.Table alignments) below inner is holds = absurd (true≢false is)
outside body.TableHead below inner is holds = absurd (true≢false is)
outside body.TableRow below inner is holds = absurd (true≢false is)
outside body.TableCell below inner is holds = absurd (true≢false is)
outside other below inner is holds = holds

one_more : (in_list : Bool) (a : Shown) (below after : Forest Shown) → is_of_table a.item.body ≡ false
    → is_list_item a.item.body ≡ in_list → Keep (is_list a.item.body) below → Keep in_list after
    → Keep in_list (node a below after)
one_more in_list a below after other item inner rest = (
  (no_rows a below (no_table a.item.body other), inner.0, rest.0),
  (outside a.item.body below (TablesInPlace below) other inner.1, rest.1),
  (item, inner.2, rest.2),
)

-- the body is that of no table, no list, and no part of these
abbrev IsApart : ItemBody → Type 0
IsApart b = (is_of_table b ≡ false) × (is_list_item b ≡ false) × (is_list b ≡ false)

one_apart : (a : Shown) (below after : Forest Shown) → IsApart a.item.body → Keep false below → Keep false after
    → Keep false (node a below after)
one_apart a below after apart inner rest = one_more false a below after apart.0 apart.1 (rw apart.2 inner) rest

-- inline items
abbrev AreInline : Forest Shown → Type 0
AreInline f = Each (λ a. IsTrue (is_inline a.item.body)) f

inline_apart : (b : ItemBody) → IsTrue (is_inline b) → IsApart b
inline_apart (body.Table alignments) is = absurd (true≢false (sym is))
inline_apart body.TableHead is = absurd (true≢false (sym is))
inline_apart body.TableRow is = absurd (true≢false (sym is))
inline_apart body.TableCell is = absurd (true≢false (sym is))
inline_apart (body.List tight marker first) is = absurd (true≢false (sym is))
inline_apart (body.ListItem indent) is = absurd (true≢false (sym is))
inline_apart other is = (refl, refl, refl)

-- these keep what holds outside of tables and lists
apart_kept : (f : Forest Shown) → AreInline f → Keep false f
apart_kept nil are = none_kept
apart_kept (node a below after) are =
    one_apart a below after (inline_apart a.item.body are.0) (apart_kept below are.1) (apart_kept after are.2)

chain_inline : (items : List Shown) → AreUnmarked items → AreInline (chain_of items)
chain_inline [] none = tt
chain_inline (a ∷ items) none = (unmarked_inline a.item.body none.0, tt, chain_inline items none.1)

chain_kept : (items : List Shown) → AreUnmarked items → Keep false (chain_of items)
chain_kept items none = apart_kept (chain_of items) (chain_inline items none)

inline_kept : (a : Shown) (items : List Shown) → IsApart a.item.body → AreUnmarked items
    → Keep false (node a (chain_of items) nil)
inline_kept a items apart none = one_apart a (chain_of items) nil apart (chain_kept items none) none_kept

-- those of a paragraph: there may be a task marker before the others
task_kept : (s : Source) (l : SourceLine) (lines : List SourceLine) (task : Option Bool)
    → Keep false (chain_of (items_after_task s l lines task))
task_kept s l lines None =
    let extensions = item_syntax s.syntax in
    chain_kept (lines_items s.text extensions (l ∷ lines)) (lines_unmarked s.text extensions (l ∷ lines))
task_kept s l lines (Some done) =
    let extensions = item_syntax s.syntax in
    let rest = without_empty (past_task l ∷ lines) in
    one_apart (plain_item l.left.scanned (l.left.scanned + 3) (body.TaskListMarker done)) nil
    (chain_of (lines_items s.text extensions rest)) (refl, refl, refl) none_kept
    (chain_kept (lines_items s.text extensions rest) (lines_unmarked s.text extensions rest))

items_kept : (s : Source) (marked : ℕ) (lines : List SourceLine)
    → Keep false (chain_of (paragraph_items s marked lines))
items_kept s marked [] = none_kept
items_kept s marked (l ∷ lines) =
    task_kept s l lines (if l.next == marked then task_read s.syntax l.left.bytes else None)

-- blocks of text
paragraph_kept : (s : Source) (around : Around) (b : Block) (lines : List SourceLine)
    → Keep false (shown_text s around.marked b (paragraph_body around.tight) lines)
paragraph_kept s around b [] = none_kept
paragraph_kept s around b (l ∷ lines) =
    one_apart (plain_item l.left.scanned b.last (paragraph_body around.tight))
    (chain_of (paragraph_items s around.marked (l ∷ lines))) nil (is_other around.tight)
    (items_kept s around.marked (l ∷ lines)) none_kept
  where
    is_other : (tight : Bool) → IsApart (paragraph_body tight)
    is_other true = (refl, refl, refl)
    is_other false = (refl, refl, refl)

heading_kept : (s : Source) (start end : ℕ) (level : HeadingLevel) (braces : Option Braces) (below : Forest Shown)
    → Keep false below → Keep false (shown_heading s start end level braces below)
heading_kept s start end level None below inner =
    one_apart (plain_item start end (body.Heading level None)) below nil (refl, refl, refl) inner none_kept
heading_kept s start end level (Some braces) below inner =
    one_apart (record {
      item = record { start = start; end = end; body = body.Heading level (Some (record { 0 = 1 })) };
      text = None;
      heading = Some (heading_of_words level (words_in s.text braces));
      alignments = [];
    }) below nil (refl, refl, refl) inner none_kept

setext_kept : (s : Source) (marked : ℕ) (b : Block) (level : HeadingLevel) (lines : List SourceLine)
    → Keep false (shown_setext s marked b level lines)
setext_kept s marked b level [] = none_kept
setext_kept s marked b level (l ∷ lines) =
    let braces = last_braces s.syntax (l ∷ lines) in
    let rest = before_braces braces (l ∷ lines) in
    heading_kept s l.left.scanned b.last level braces (chain_of (paragraph_items s marked rest))
    (items_kept s marked rest)

-- cells
are_cells : (s : Source) (cells : List Cell) → AreCells (shown_cells s cells)
are_cells s [] = tt
are_cells s (cell ∷ cells) =
    let extensions = item_syntax s.syntax in (
      refl,
      chain_inline (cell_items s.text extensions cell.from cell.to)
          (cell_unmarked s.text extensions cell.from cell.to),
      are_cells s cells,
    )

are_empty : (count at : ℕ) → AreCells (empty_cells count at)
are_empty zero at = tt
are_empty (suc count) at = (refl, tt, are_empty count at)

cells_joined : (f g : Forest Shown) → AreCells f → AreCells g → AreCells (followed_by f g)
cells_joined nil g first second = second
cells_joined (node cell below after) g first second = (first.0, first.1, cells_joined after g first.2 second)

-- no table and no list is in a table
cells_kept : (f : Forest Shown) → AreCells f → Even f × ItemsInPlace false f
cells_kept nil are = (tt, tt)
cells_kept (node cell below after) are =
    let inner = apart_kept below are.1 in
    let rest = cells_kept after are.2 in (
      (no_rows cell below (ap is_table are.0), inner.0, rest.0),
      (ap is_list_item are.0, rw (ap is_list are.0) inner.2, rest.1),
    )

rows_kept : (f : Forest Shown) → AreRows f → Even f × ItemsInPlace false f
rows_kept nil are = (tt, tt)
rows_kept (node row cells after) are =
    let inner = cells_kept cells are.1 in
    let rest = rows_kept after are.2 in (
      (no_rows row cells (ap is_table are.0), inner.0, rest.0),
      (ap is_list_item are.0, rw (ap is_list are.0) inner.1, rest.1),
    )

cells_counted : (s : Source) (cells : List Cell) → length (roots (shown_cells s cells)) ≡ length cells
cells_counted s [] = refl
cells_counted s (cell ∷ cells) = omega (arith, cells_counted s cells)

empty_counted : (count at : ℕ) → length (roots (empty_cells count at)) ≡ count
empty_counted zero at = refl
empty_counted (suc count) at = omega (arith, empty_counted count at)

counted : {A : Type 0} (a b : Forest A) → length (roots (followed_by a b)) ≡ length (roots a) + length (roots b)
counted nil b = omega arith
counted (node a below after) b = omega (arith, counted after b)

-- a row contains cells, as many as its table has columns
row_cells : (s : Source) (columns : ℕ) (l : SourceLine) → AreCells (cells_shown s columns l)
row_cells s columns l =
    cells_joined (shown_cells s (take columns (cells_of l))) (empty_cells (cells_added columns l) l.next)
    (are_cells s (take columns (cells_of l))) (are_empty (cells_added columns l) l.next)

row_counted : (s : Source) (columns : ℕ) (l : SourceLine) → length (roots (cells_shown s columns l)) ≡ columns
row_counted s columns l =
    omega (
      arith,
      counted (shown_cells s (take columns (cells_of l))) (empty_cells (cells_added columns l) l.next),
      cells_counted s (take columns (cells_of l)),
      empty_counted (cells_added columns l) l.next,
      length-take columns (cells_of l),
    )

-- rows
are_rows : (s : Source) (columns : ℕ) (rows : List SourceLine) → AreRows (shown_rows s columns rows)
are_rows s columns [] = tt
are_rows s columns (l ∷ rows) = (refl, row_cells s columns l, are_rows s columns rows)

rows_counted : (s : Source) (columns : ℕ) (rows : List SourceLine) → EachContains columns (shown_rows s columns rows)
rows_counted s columns [] = tt
rows_counted s columns (l ∷ rows) = (row_counted s columns l, rows_counted s columns rows)

-- a table
table_kept : (s : Source) (start end : ℕ) (head : SourceLine) (alignments : List Alignment) (rows : List SourceLine)
    → Keep false (shown_table s start end head alignments rows)
table_kept s start end head alignments rows =
    let columns = length alignments in
    let cells = row_cells s columns head in
    let others = are_rows s columns rows in
    let cells_held = cells_kept (cells_shown s columns head) cells in
    let rows_held = rows_kept (shown_rows s columns rows) others in (
      (
        record {
          rows = λ is. (refl, cells, others);
          even = λ is. (row_counted s columns head, rows_counted s columns rows);
        },
        (
          no_rows (plain_item head.left.scanned head.next body.TableHead) (cells_shown s columns head) refl,
          cells_held.0,
          rows_held.0,
        ),
        tt,
      ),
      ((refl, cells, others), tt),
      (refl, (refl, cells_held.1, rows_held.1), tt),
    )

-- lines of code, of HTML or of metadata
lines_kept : (a : Shown) (b : ItemBody) (lines : List SourceLine) → IsApart a.item.body
    → is_marked b ≡ false → Keep false (node a (chain_of (source_lines b lines)) nil)
lines_kept a b lines other is = inline_kept a (source_lines b lines) other (source_unmarked b lines is)

-- one block, from what the blocks in it become
block_kept : (s : Source) (in_list : Bool) (around : Around) (b : Block) (end : ℕ) (below : Forest Block)
    (inside : Around → Forest Shown) (kind : Kind) → fits in_list kind ≡ true
    → ((around : Around) → Keep (holds_items kind) (inside around))
    → Keep in_list (shown_block s around b end below inside kind)
block_kept s in_list around b end below inside was.blank_line fit kept = none_kept
block_kept s true around b end below inside (was.item_container indent) fit kept =
    let blocks : Around = record { tight = around.tight; marked = b.first } in
    one_more true (plain_item b.start end (body.ListItem indent)) (inside blocks) nil refl refl (kept blocks) none_kept
block_kept s true around b end below inside other fit kept = absurd (true≢false (sym fit))
block_kept s false around b end below inside (was.item_container indent) fit kept = absurd (true≢false (sym fit))
block_kept s false around b end below inside (was.paragraph_leaf lines) fit kept =
    paragraph_kept s around b (divided (entity_names s.syntax) s.text lines).lines
block_kept s false around b end below inside (was.underlined_leaf level lines) fit kept =
    setext_kept s around.marked b level (divided (entity_names s.syntax) s.text lines).lines
block_kept s false around b end below inside (was.heading_leaf found) fit kept =
    let extensions = item_syntax s.syntax in
    let items = content_items s.text extensions found.from found.to in
    heading_kept s b.start end found.level found.braces (chain_of items)
    (chain_kept items (content_unmarked s.text extensions found.from found.to))
block_kept s false around b end below inside was.break_leaf fit kept =
    one_apart (plain_item b.start end body.Rule) nil nil (refl, refl, refl) none_kept none_kept
block_kept s false around b end below inside (was.indented_leaf lines) fit kept =
    lines_kept (plain_item b.start end body.IndentCodeBlock) (body.Text false) (code_lines lines) (refl, refl, refl)
    refl
block_kept s false around b end below inside (was.fenced_leaf opening closed lines) fit kept =
    lines_kept (record {
      item = record { start = b.start; end = end; body = body.FencedCodeBlock (record { 0 = 0 }) };
      text = Some (info_of s opening);
      heading = None;
      alignments = [];
    }) (body.Text false) lines (refl, refl, refl) refl
block_kept s false around b end below inside (was.html_leaf kind closed lines) fit kept =
    lines_kept (plain_item b.start end body.HtmlBlock) body.Html lines (refl, refl, refl) refl
block_kept s false around b end below inside (was.metadata_leaf kind closed lines) fit kept =
    lines_kept (plain_item b.start end (body.MetadataBlock kind)) (body.Text false) lines (refl, refl, refl) refl
block_kept s false around b end below inside (was.table_leaf ended head alignments rows) fit kept =
    table_kept s b.start end head alignments rows
block_kept s false around b end below inside was.quote_container fit kept =
    one_apart (plain_item b.start end (body.BlockQuote None)) (inside in_no_item) nil (refl, refl, refl)
    (kept in_no_item) none_kept
block_kept s false around b end below inside (was.alert_container kind) fit kept =
    one_apart (plain_item b.start end (body.BlockQuote (Some kind))) (inside in_no_item) nil (refl, refl, refl)
    (kept in_no_item) none_kept
block_kept s false around b end below inside (was.list_container marker) fit kept =
    let items : Around = record { tight = not (is_loose below); marked = 0 } in
    one_more false (plain_item b.start end (body.List (not (is_loose below)) marker.character marker.first))
    (inside items) nil refl refl (kept items) none_kept
block_kept s false around b end below inside (was.footnote_container label) fit kept =
    one_apart (record {
      item = record { start = b.start; end = end; body = body.FootnoteDefinition (record { 0 = 0 }) };
      text = Some label;
      heading = None;
      alignments = [];
    }) (inside in_no_item) nil (refl, refl, refl) (kept in_no_item) none_kept

blocks_kept : (s : Source) (in_list : Bool) (blocks : Forest Block) → Fit in_list blocks → (around : Around)
    → Keep in_list (shown_blocks s around blocks)
unfolding shown_blocks
blocks_kept s in_list nil fit around = none_kept
blocks_kept s in_list (node b below after) fit around =
    let end = block_end b (last_end b.first below) b.kind in
    joined in_list (shown_block s around b end below (λ inside. shown_blocks s inside below) b.kind)
    (shown_blocks s around after)
    (block_kept s in_list around b end below (λ inside. shown_blocks s inside below) b.kind fit.0
    (λ inside. blocks_kept s (holds_items b.kind) below fit.1 inside)) (blocks_kept s in_list after fit.2 around)

-- what is kept of the blocks of a text
text_kept : (s : Source) → Keep false (block_tree s)
text_kept s = blocks_kept s false (blocks_of s) (text_fit s) in_no_item

pub even_rows : RowsAreEven
even_rows s = (text_kept s).0

pub tables_in_place : TablesOfTextsInPlace
tables_in_place s = (text_kept s).1

pub items_in_place : ItemsOfTextsInPlace
items_in_place s = (text_kept s).2
