-- The rows of a table as they are placed: the pieces of a cell's content, where a row's cells lie, and their trees.
use Rattle.std.proofs.Common.{◌≡◌, ◌≢◌, ℕ, zero, suc, ◌+◌, ◌-◌, ◌<◌, ◌≤◌, Bool, true, false, List, [], ◌∷◌, ◌++◌, Some}
use Rattle.std.proofs.Common.{None, length, drop, take, min, slice_range, ⊎_elim, refl, sym, ap, ◌∙◌, arith, codes}
use Rattle.std.proofs.Common.{true≢false, get_or, ◌==◌, ◌&&◌, nat_lt, not, if◌then◌else◌, IsCharBoundary, IsUtf8}
use Rattle.std.proofs.Common.{append_assoc, get_or-drop, length-append, length-drop, take-take, take_all}
use Rattle.markdown_plain.proofs.Names.{list_all, prefix_len, and_parts, cases_lt, nat_tests, prefix_len_passes}
use Rattle.markdown_plain.proofs.Names.{prefix_len-le-length, IsCharBoundary-after_ascii, IsCharBoundary-before_ascii}
use Rattle.markdown_plain.proofs.Names.{Forest, nil, node, ItemBody, OpenBlock, BuilderView, Opens, parts_of}
use Rattle.markdown_plain.proofs.Names.{with_items, is_table_row, open_columns, Shown, chain_of, plain_item}
use Rattle.markdown_plain.proofs.Names.{settled_below, shown_item, followed_by, followed_by-assoc, followed_by-nil}
use Rattle.markdown_plain.proofs.Names.{content_items, more_items, HeldLine, Source, without_end, SourceLine}
use Rattle.markdown_plain.proofs.Names.{trimmed_is, begins_with, shown_over, shown_row, IsInText, GoesOn, PutsBlock}
use Rattle.markdown_plain.proofs.Names.{closed, stepped, IsTextLine, HasItems, HasMoreTexts, HasTrees, outer_of}
use Rattle.markdown_plain.proofs.Names.{PutsTrees}
use Rattle.std.specs.List.{list_any}
use Rattle.std.proofs.lemmas.List.{same_from_push}
use Rattle.std.proofs.lemmas.List.Folds.{list_any_at}
use Rattle.markdown_base.specs.Bytes.{backslash, pipe}
use Rattle.markdown_base.specs.Forest.{roots}
use Rattle.markdown_builder.specs.Bodies.{is_leaf}
use Rattle.markdown_builder.specs.EvenRows.{InnermostRowIsEven}
use Rattle.markdown_builder.specs.Shown.{alignments_shown}
use Rattle.markdown_items.specs.declared.extensions.ItemSyntax.{ItemSyntax}
use Rattle.markdown_items.specs.LineItems.{is_special}
use Rattle.markdown_items.specs.RestOfLine.{HasSpecialRun, RunIsOver}
use Rattle.markdown_items.proofs.ContentItemsLemmas.{no_byte}
use Rattle.markdown_lines.specs.declared.table_row.Cell.{Cell}
use Rattle.markdown_lines.specs.TableRows.{cell_over, cells_from, cells_left, cells_over, is_cut, is_row_white}
use Rattle.markdown_lines.specs.TableRows.{parts_after, piece_length, row_cells_at}
use Rattle.markdown_lines.proofs.TableRowsLemmas.{no_cell}
use Rattle.markdown_block_rules.specs.BlockRules.{empty_cells, shown_cells}
use Rattle.markdown_block_rules.specs.LineContents.{pieces_items}
use Rattle.markdown_plain.specs.Fitting.{opened}
use Rattle.markdown_plain.specs.TableRows.{IsCellIn, IsOnePiece, MayAddCell, line_row}
use Rattle.markdown_base.specs.declared.item.ItemBody.TheVariants as body
use Rattle.markdown_plain.proofs.ParagraphTreesLemmas.{range_byte, range_length}
use Rattle.markdown_plain.proofs.LeafTreesLemmas.{closed_tree, no_text, on_test, put_opened, same_block, texts_after}
use Rattle.markdown_plain.proofs.LeafTreesLemmas.{trees_last, innermost_of_opened, outer_of_opened, by_test}
use Rattle.markdown_plain.proofs.ClosableLemmas.{end_passes}
use Rattle.markdown_plain.proofs.ReadyLinesLemmas.{some_opened}

-- ---- where a piece of a cell's content ends

-- where a piece ends, from one byte offset up to another: at the end, or before two backslashes and a `|`
pub record IsPieceIn (text : List ℕ) (from to stop : ℕ) : Type 0 where
  pub low : from ≤ stop
  pub high : stop ≤ to
  pub pair : stop < to → (stop + 3 ≤ to) × (get_or text stop 0 ≡ backslash) × (get_or text (stop + 2) 0 ≡ pipe)

-- it may end with them
pub whole_piece : (text : List ℕ) (from to stop : ℕ) → from ≤ to → stop ≡ to → IsPieceIn text from to stop
whole_piece text from to stop low is =
    record { low = omega (arith, low, is); high = omega (arith, is); pair = λ less. absurd (omega (arith, less, is)) }

-- it ends one byte later where there is a byte before the bytes
ends_later : (byte : ℕ) (bytes : List ℕ) (n more : ℕ) → more ≡ suc n → IsPieceIn bytes 0 (length bytes) n
    → IsPieceIn (byte ∷ bytes) 0 (length (byte ∷ bytes)) more
ends_later byte bytes n more on is = record {
  low = omega arith;
  high = omega (arith, on, is.high);
  pair = λ less.
      let pair = is.pair (omega (arith, on, less)) in let there : more + 2 ≡ suc (n + 2) = omega (arith, on) in
      (omega (arith, on, pair.0), rw on pair.1, rw there pair.2);
}

-- the first byte is a `|`
begins_piped : (bytes : List ℕ) → begins_with (codes "|") bytes ≡ true → (1 ≤ length bytes) × (get_or bytes 0 0 ≡ pipe)
begins_piped [] is = absurd (true≢false (sym is))
begins_piped (byte ∷ bytes) is =
    let same = (and_parts (pipe == byte) (begins_with [] bytes) is).0 in (omega arith, grind (arith, nat_tests, same))

-- where a piece is counted to end, it does
piece_ends : (bytes : List ℕ) → IsPieceIn bytes 0 (length bytes) (piece_length bytes)
unfolding piece_length
piece_ends [] = whole_piece [] 0 0 0 (omega arith) refl
piece_ends (byte ∷ []) = whole_piece (byte ∷ []) 0 1 1 (omega arith) refl
piece_ends (byte ∷ next ∷ bytes) =
    on_test (IsPieceIn (byte ∷ next ∷ bytes) 0 (length (byte ∷ next ∷ bytes))) (not (byte == backslash)) _ _
    (λ plain. ends_later byte (next ∷ bytes) _ _ (omega arith) (piece_ends (next ∷ bytes)))
    (λ escapes. on_test (IsPieceIn (byte ∷ next ∷ bytes) 0 (length (byte ∷ next ∷ bytes)))
    ((next == backslash) && begins_with (codes "|") bytes) _ _
    (λ is. let piped = begins_piped bytes (and_parts (next == backslash) (begins_with (codes "|") bytes) is).1 in
    record {
      low = omega arith;
      high = omega arith;
      pair = λ less. (omega (arith, piped.0), grind (arith, nat_tests, escapes), piped.1);
    }) (λ none. ends_later byte (next ∷ bytes) _ _ (omega arith) (ends_later next bytes _ _ refl (piece_ends bytes))))

-- the first piece of a part of a text
pub piece_in : (text : List ℕ) (from to : ℕ) → from ≤ to → to ≤ length text
    → IsPieceIn text from to (from + piece_length (slice_range text from to))
piece_in text from to ordered within =
    let is = piece_ends (slice_range text from to) in let size = range_length text from to within in
    let n = piece_length (slice_range text from to) in
    record {
      low = omega arith;
      high = omega (arith, is.high, size, ordered);
      pair = λ less.
          let pair = is.pair (omega (arith, less, size)) in
          let on : from + n + 2 ≡ from + (n + 2) = omega arith in (
            omega (arith, pair.0, size, ordered),
            sym (range_byte text from to n (omega (arith, pair.0, size))) ∙ pair.1,
            rw on (sym (range_byte text from to (n + 2) (omega (arith, pair.0, size))) ∙ pair.2),
          );
    }

-- where a piece ends is between characters, and so is where the next one begins
pub piece_cut : (text : List ℕ) (from to stop : ℕ) → IsCharBoundary text to → IsPieceIn text from to stop
    → IsCharBoundary text stop × (stop < to → IsCharBoundary text (stop + 2))
piece_cut text from to stop boundary is =
    ⊎_elim (λ (less : stop < to). let pair = is.pair less in (
      IsCharBoundary-before_ascii text stop (omega (arith, less, boundary.0)) (omega (arith, pair.1)),
      λ more. IsCharBoundary-before_ascii text (stop + 2) (omega (arith, pair.0, boundary.0)) (omega (arith, pair.2)),
    )) (λ (all : to ≤ stop). let same : stop ≡ to = omega (arith, all, is.high) in
    (rw same boundary, λ more. absurd (omega (arith, all, more)))) (cases_lt stop to)

-- a cell is one piece, where there is no backslash in its line
pub one_piece_in : (text : List ℕ) (start stop : ℕ) (cell : Cell)
    → list_any (λ byte. byte == backslash) (slice_range text start stop) ≡ false → stop ≤ length text
    → start ≤ cell.from → cell.from ≤ cell.to → cell.to ≤ stop → IsOnePiece text cell
one_piece_in text start stop cell none within low ordered high =
    let end = cell.from + piece_length (slice_range text cell.from cell.to) in
    let piece = piece_in text cell.from cell.to ordered (omega (arith, high, within)) in
    ⊎_elim (λ (less : end < cell.to).
    let place : start + (end - start) ≡ end = omega (arith, low) in
    let byte : get_or (slice_range text start stop) (end - start) 0 ≡ backslash =
    range_byte text start stop (end - start) (omega (arith, less, low, high)) ∙ rw place (piece.pair less).1 in
    absurd (true≢false (sym (list_any_at (λ byte. byte == backslash) (slice_range text start stop) (end - start) 0
    (omega (arith, less, range_length text start stop within, low, high)) (grind (arith, nat_tests, byte))) ∙ none)))
    (λ (all : cell.to ≤ end). omega (arith, all, piece.high)) (cases_lt end cell.to)

-- ---- the items of the pieces

-- nothing is read where nothing is left
pub no_pieces : (n : ℕ) (text : List ℕ) (extensions : ItemSyntax) (start end : ℕ) → end ≤ start
    → pieces_items n text extensions start end ≡ []
unfolding pieces_items piece_length
no_pieces zero text extensions start end low = refl
no_pieces (suc n) text extensions start end low =
    let none : end - start ≡ 0 = omega (arith, low) in let here : start + 0 ≡ start = omega arith in
    let over : nat_lt start end ≡ false = grind (arith, nat_tests, low) in
    let empty : nat_lt start start ≡ false = grind (arith, nat_tests) in
    let byte = no_byte (start - start) text (record { start = start; end = start; extensions = extensions }) start in
    rw (none, here, over, byte, empty)

-- with the pieces that are read from a byte offset on, all items of a cell's content are made
pub record AwaitsPieces (extensions : ItemSyntax) (end : ℕ) (all : List (Forest Shown)) (view : BuilderView) (from : ℕ)
    : Type 0 where
  pub steps : ℕ
  pub enough : end - from < steps
  pub rest : with_items view.levels (pieces_items steps view.text extensions from end) ≡ all
  pub over : from < end → (byte : ℕ) → view.run ≡ Some byte → get_or view.text from 0 ≢ byte
  pub special : HasSpecialRun extensions view

-- a `|` is no delimiter run's byte
pipe_is_plain : (dashes : Bool) → is_special dashes pipe ≡ false
pipe_is_plain true = refl
pipe_is_plain false = refl

-- after the calls for a piece, the pieces after it make the other items
pub piece_placed : {extensions : ItemSyntax} {all : List (Forest Shown)} {view moved new : BuilderView}
    {from to stop next : ℕ} → from < to → to ≤ length view.text → AwaitsPieces extensions to all view from
    → moved ≡ stepped view from → GoesOn moved new stop → (RunIsOver stop moved moved.at
    → new.levels ≡ with_items moved.levels (content_items moved.text extensions moved.at stop))
    → (HasSpecialRun extensions moved → HasSpecialRun extensions new)
    → stop ≡ from + piece_length (slice_range view.text from to) → (stop + 3 ≤ to → next ≡ stop + 2) → stop ≤ next
    → AwaitsPieces extensions to all new next
unfolding pieces_items
piece_placed {extensions} {all} {view} {moved} {new} {from} {to} {stop} {next} less within awaits is_moved goes further
    over stops after low =
    let text : new.text ≡ view.text = rw (goes, is_moved) refl in
    let special : HasSpecialRun extensions new = (rw is_moved at over) awaits.special in let steps = awaits.steps - 1 in
    let steps_are : awaits.steps ≡ suc steps = omega (arith, awaits.enough) in
    let piece : IsPieceIn view.text from to stop =
    rw stops (piece_in view.text from to (omega (arith, less)) within) in
    let items : new.levels ≡ with_items view.levels (content_items view.text extensions from stop) =
    (rw is_moved at further) (λ byte some same more. awaits.over less byte some) in
    let left_over : stop < to → next ≡ stop + 2 = λ more. after (piece.pair more).0 in
    let left : pieces_items steps view.text extensions next to
    ≡ (if nat_lt stop to then pieces_items steps view.text extensions (stop + 2) to else []) =
    on_test (λ items. pieces_items steps view.text extensions next to ≡ items) (nat_lt stop to) _ _
    (λ more. rw (left_over (grind (arith, nat_tests, more))) refl)
    (λ none. no_pieces steps view.text extensions next to (grind (arith, nat_tests, none, low))) in
    record {
      steps = steps;
      enough = ⊎_elim (λ (more : stop < to). omega (arith, awaits.enough, piece.low, left_over more))
          (λ (over : to ≤ stop). omega (arith, awaits.enough, over, low, less)) (cases_lt stop to);
      rest = rw (text, items, left) (more_items view.levels _ _ ∙ (rw (steps_are, ← stops) at awaits.rest));
      over = λ some byte run same.
          let pair = piece.pair (omega (arith, some, low)) in
          let here : get_or view.text next 0 ≡ pipe = rw (after pair.0) pair.2 in
          true≢false (sym (special byte run) ∙ (rw (← same, text, here) (pipe_is_plain extensions.dashes)));
      special = special;
    }

-- a piece may begin at a byte offset, in a cell's content that ends at another
pub record MayAddPiece (text : List ℕ) (view : BuilderView) (from to : ℕ) : Type 0 where
  pub low : view.at ≤ from
  pub high : view.at ≤ to
  pub boundary : from < to → IsCharBoundary text from

-- ---- a cell

-- a cell that was opened after a step, filled and closed after another is put into the row
pub cell_puts : {old first begun filled now new : BuilderView} {start end : ℕ} (items : List Shown)
    → first ≡ stepped old start → Opens first begun body.TableCell → GoesOn begun filled filled.at
    → HasMoreTexts begun filled → HasItems begun filled items → now ≡ stepped filled end
    → new ≡ closed now new.levels → PutsBlock now new
    → PutsTrees old new end (node (plain_item start end body.TableCell) (chain_of items) nil)
cell_puts {old} {first} {begun} {filled} {now} {new} {start} {end} items steps opens goes texts added moved closes
    put =
    let block : OpenBlock = record { start = start; body = body.TableCell } in
    record {
      placed = rw (closes, moved, goes, opens, steps, outer_of_opened old.blocks block) refl;
      texts = texts_after old begun new (no_text old begun (rw (opens, steps) refl))
          (texts_after begun filled new texts (no_text filled new (rw (closes, moved) refl)));
      trees = put_opened old.levels now new old.blocks block items _ (rw (moved, goes, opens, steps) refl)
          (rw (moved, added, opens, steps) refl) (rw moved refl) refl put;
    }

-- ---- where the cells of a line lie

-- a part of a row that lies between characters makes a cell that does
cell_in : (text : List ℕ) (start end : ℕ) → IsUtf8 text → start ≤ end → IsCharBoundary text start
    → IsCharBoundary text end → IsCellIn text (cell_over start (slice_range text start end))
cell_in text start end utf8 ordered first last =
    let part = slice_range text start end in let white = prefix_len is_row_white part in let inner = drop white part in
    let count = length (without_end is_row_white inner) in let trimmed = trimmed_is is_row_white inner in
    let rest = length-drop white part in let few = prefix_len-le-length is_row_white part in
    let size = range_length text start end last.0 in
    let small : (k : ℕ) → k < length part → is_row_white (get_or part k 0) ≡ true → get_or text (start + k) 0 < 128 =
    λ k less is. let small : get_or part k 0 < 128 = grind (arith, nat_tests, is) in
    rw (range_byte text start end k (omega (arith, less, size))) at small in
    record {
      after = omega arith;
      content = omega arith;
      before = omega (arith, trimmed, rest, few);
      start = first;
      from = ⊎_elim (λ (some : 0 < white).
          let place : start + white ≡ start + (white - 1) + 1 = omega (arith, some) in
          rw place (IsCharBoundary-after_ascii text (start + (white - 1)) utf8 (omega (arith, some, few, size, last.0))
          (small (white - 1) (omega (arith, some, few))
          (prefix_len_passes is_row_white part (white - 1) 0 (omega (arith, some))))))
          (λ (none : white ≤ 0). let place : start + white ≡ start = omega (arith, none) in rw place first)
          (cases_lt 0 white);
      to = ⊎_elim (λ (less : count < length inner).
          let place : start + white + count ≡ start + (white + count) = omega arith in
          rw place (IsCharBoundary-before_ascii text (start + (white + count))
          (omega (arith, less, rest, few, size, last.0)) (small (white + count) (omega (arith, less, rest, few))
          (rw (get_or-drop white part count 0) at
          (end_passes is_row_white inner count (omega (arith, trimmed)) less))))) (λ (all : length inner ≤ count).
          let place : start + white + count ≡ end = omega (arith, all, trimmed, rest, few, size, ordered) in
          rw place last) (cases_lt count (length inner));
      end = let place : start + length part ≡ end = omega (arith, size, ordered) in rw place last;
    }

-- the first part of a row: it ends with the row, or before a `|`
record HasFirstPart (before : ℕ) (bytes : List ℕ) : Type 0 where
  count : ℕ
  others : List (List ℕ)
  is : parts_after before bytes ≡ take count bytes ∷ others
  few : count ≤ length bytes
  cut : count < length bytes → get_or bytes count 0 ≡ pipe

first_part : (before : ℕ) (bytes : List ℕ) → HasFirstPart before bytes
unfolding parts_after
first_part before [] =
    record { count = 0; others = []; is = refl; few = omega arith; cut = λ less. absurd (omega (arith, less)) }
first_part before (byte ∷ bytes) =
    by_test (is_cut before byte) (λ is. let cut : byte ≡ pipe = grind (arith, nat_tests, is) in
    record { count = 0; others = parts_after byte bytes; is = rw is; few = omega arith; cut = λ less. cut })
    (λ is. let on = first_part byte bytes in
    record {
      count = suc on.count;
      others = on.others;
      is = rw (is, on.is) refl;
      few = omega (arith, on.few);
      cut = λ less. on.cut (omega (arith, less));
    })

-- the first cell that bytes at a byte offset have is their first part
first_cell : (start : ℕ) (bytes : List ℕ) (cell : Cell) (rest : List Cell) → cells_from start bytes ≡ cell ∷ rest
    → cell_over start (take (first_part pipe bytes).count bytes) ≡ cell
first_cell start bytes cell rest e =
    alone (take (first_part pipe bytes).count bytes) (first_part pipe bytes).others (rw (first_part pipe bytes).is at e)
  where
    alone : (part : List ℕ) (others : List (List ℕ)) → cells_over start (part ∷ others) ≡ cell ∷ rest
        → cell_over start part ≡ cell
    alone part [] e =
        by_test (list_all is_row_white part) (λ white. let h = rw white at e in cc (h))
        (λ filled. let h = rw filled at e in cc (h))
    alone part (next ∷ others) e = cc (e)

first_start : (start : ℕ) (bytes : List ℕ) (cell : Cell) (rest : List Cell) → cells_from start bytes ≡ cell ∷ rest
    → cell.start ≡ start
first_start start bytes cell rest e = sym (ap (λ (c : Cell). c.start) (first_cell start bytes cell rest e))

-- no cell is left at the end of the line
nothing_left : (text : List ℕ) (start stop : ℕ) → stop ≤ start → cells_left text start stop ≡ []
nothing_left text start stop over = let none : stop - start ≡ 0 = omega (arith, over) in rw none (no_cell start [] refl)

-- A cell begins at a byte offset, or after it, and ends with a line's content, or before a `|`.
pub record IsNextCell (text : List ℕ) (low stop : ℕ) (cell : Cell) : Type 0 where
  pub after : low ≤ cell.start
  pub before : cell.end ≤ stop
  pub inside : IsCellIn text cell
  pub cut : cell.end < stop → get_or text cell.end 0 ≡ pipe

next_in : (text : List ℕ) (low start stop : ℕ) (cell : Cell) (rest : List Cell) → IsUtf8 text → low ≤ start
    → IsCharBoundary text start → start ≤ stop → IsCharBoundary text stop → cells_left text start stop ≡ cell ∷ rest
    → IsNextCell text low stop cell
next_in text low start stop cell rest utf8 after first ordered last e =
    let part = first_part pipe (slice_range text start stop) in let size = range_length text start stop last.0 in
    let end = start + part.count in let less : part.count ≤ stop - start = omega (arith, part.few, size) in
    let taken : end - start ≡ part.count = omega arith in
    let bytes : take part.count (slice_range text start stop) ≡ slice_range text start end =
    take-take part.count (stop - start) (drop start text) less ∙ rw taken refl in
    let there = range_length text start end (omega (arith, less, ordered, last.0)) in
    let ends : start + length (slice_range text start end) ≡ end = omega (arith, there) in
    let piped : part.count < stop - start → get_or text end 0 ≡ pipe = λ more.
    sym (range_byte text start stop part.count more) ∙ part.cut (omega (arith, more, size)) in
    let boundary : IsCharBoundary text end =
    ⊎_elim (λ (more : part.count < stop - start).
    IsCharBoundary-before_ascii text end (omega (arith, more, last.0)) (omega (arith, piped more)))
    (λ (all : stop - start ≤ part.count). let same : end ≡ stop = omega (arith, all, less, ordered) in rw same last)
    (cases_lt part.count (stop - start)) in
    rw (← first_cell start (slice_range text start stop) cell rest e, bytes) (record {
      after = after;
      before = omega (arith, there, less, ordered);
      inside = cell_in text start end utf8 (omega arith) first boundary;
      cut = λ more. rw ends (piped (omega (arith, more, there)));
    })

-- a cell may begin at a byte offset of a line, if one is left there
abbrev MayBegin : List ℕ → (low stop start : ℕ) → Type 0
MayBegin text low stop start =
    (cell : Cell) (rest : List Cell) → cells_left text start stop ≡ cell ∷ rest
    → (low ≤ start) × (start ≤ stop) × IsCharBoundary text start

-- the first one of a line
first_begins : (text : List ℕ) (line : HeldLine) (start : ℕ) → IsUtf8 text → IsInText text line
    → cells_left text start line.stop ≡ row_cells_at text line.start line.stop
    → MayBegin text line.start line.stop start
first_begins text line start utf8 inside cells cell rest e =
    let bytes = slice_range text line.start line.stop in
    let begins = first_start start (slice_range text start line.stop) cell rest e in
    let size = range_length text line.start line.stop inside.stop.0 in let are = sym cells ∙ e in
    by_test (begins_with (codes "|") bytes) (λ led.
    let piped = begins_piped bytes led in let on : line.start + 0 ≡ line.start = omega arith in
    let here = sym (range_byte text line.start line.stop 0 (omega (arith, piped.0, size))) ∙ piped.1 in
    let same : start ≡ line.start + 1 =
    sym begins ∙ first_start (line.start + 1) (drop 1 bytes) cell rest (rw led at are) in
    let boundary = IsCharBoundary-after_ascii text line.start utf8 (omega (arith, piped.0, size, inside.stop.0))
    (omega (arith, rw on at here)) in
    rw same (omega arith, omega (arith, piped.0, size), boundary))
    (λ bare. let same : start ≡ line.start = sym begins ∙ first_start line.start bytes cell rest (rw bare at are) in
    rw same (omega arith, inside.content, inside.start))

-- ---- the trees of a row

-- a row of this many columns, from the next cell on: those beyond them are in no item, and empty ones are in place of
-- those that it lacks
abbrev cells_on : Source → (columns : ℕ) → List Cell → (at : ℕ) → Forest Shown
cells_on s columns cells at = followed_by (shown_cells s (take columns cells)) (empty_cells (columns - length cells) at)

-- with a cell, and without one
cells_on_some : (s : Source) (columns count : ℕ) (cell : Cell) (cells : List Cell) (at : ℕ) → count < columns
    → cells_on s (columns - count) (cell ∷ cells) at
    ≡ followed_by (shown_cells s (cell ∷ [])) (cells_on s (columns - (count + 1)) cells at)
cells_on_some s columns count cell cells at less =
    let more : columns - count ≡ suc (columns - (count + 1)) = omega (arith, less) in
    let same : suc (columns - (count + 1)) - suc (length cells) ≡ columns - (count + 1) - length cells = omega arith in
    rw (more, same) refl

cells_on_none : (s : Source) (columns count at : ℕ) → count < columns → cells_on s (columns - count) [] at
    ≡ followed_by (empty_cells 1 at) (cells_on s (columns - (count + 1)) [] at)
cells_on_none s columns count at less =
    let more : columns - count ≡ suc (columns - (count + 1)) = omega (arith, less) in
    let some : suc (columns - (count + 1)) - 0 ≡ suc (columns - (count + 1)) = omega arith in
    let same : columns - (count + 1) - 0 ≡ columns - (count + 1) = omega arith in
    rw (more, some, same, take_all {A = Cell} (columns - (count + 1)) [] (omega arith)) refl

-- trees were put into the row
pub level_more : (outer : List (Forest Shown)) (cells more : Forest Shown) (old new : BuilderView)
    → old.levels ≡ outer ++ cells ∷ [] → HasTrees old new more → new.levels ≡ outer ++ followed_by cells more ∷ []
level_more outer cells more old new is puts =
    puts (λ none. omega (arith, ap length (sym is ∙ none), length-append outer (cells ∷ [])))
    ∙ rw is (trees_last outer cells more)

-- a row that was opened, filled and closed is put into the table
row_closed : (old now new : BuilderView) (row : ItemBody) (start : ℕ) (cells : Forest Shown)
    → is_table_row row ≡ true → now.blocks ≡ old.blocks ++ record { start = start; body = row } ∷ []
    → now.levels ≡ old.levels ++ cells ∷ [] → PutsBlock now new
    → HasTrees old new (shown_over start now.at row None cells)
row_closed old now new row start cells is blocks levels put some =
    let is_row = of_row row is in
    let same = same_block now.blocks old.blocks (outer_of now.blocks) _ put.block blocks put.was in
    let tree = closed_tree old.levels cells (plain_item start now.at row) some in
    rw (put.levels, ← same, is_row.0, levels, tree, is_row.1)
  where
    of_row : (row : ItemBody) → is_table_row row ≡ true
        → (shown_item (parts_of now) (record { start = start; end = now.at; body = row }) ≡ plain_item start now.at row)
        × (settled_below (plain_item start now.at row) cells ≡ cells)
    of_row body.TableHead is = (refl, refl)
    of_row body.TableRow is = (refl, refl)
    of_row other is = absurd (true≢false (sym is))

-- it is that of the line
pub row_shown : (s : Source) (columns : ℕ) (row : ItemBody) (line : HeldLine) (source : SourceLine)
    → IsTextLine s.text line source → line_row s columns row line ≡ shown_row s columns row source
row_shown s columns row line source is = rw (is.bytes, is.start, is.next) refl

-- ---- a row that is open

-- how many trees there are
trees_of : (f g : Forest Shown) → length (roots (followed_by f g)) ≡ length (roots f) + length (roots g)
trees_of nil g = omega arith
trees_of (node a below after) g = omega (arith, trees_of after g)

-- the cells of the row that is opened after a builder's, with those of the line from a byte offset on
abbrev cells_after : Source → BuilderView → HeldLine → (count start : ℕ) → Forest Shown
cells_after s old line count start = cells_on s (open_columns old - count) (cells_left s.text start line.stop) line.next

-- A row is open for a line, with this number of cells so far: some are the first of the line's, and the others are
-- empty. With those from a byte offset on, all cells of the row are made.
pub record HasRow (s : Source) (old : BuilderView) (b : ItemBody) (line : HeldLine) (now : BuilderView)
    (found count start : ℕ) : Type 0 where
  pub row : now ≡ record (opened old line.start b) {
    at = now.at;
    levels = now.levels;
    headings = now.headings;
    texts = now.texts;
  }
  pub texts : HasMoreTexts old now
  pub cells : Forest Shown
  pub shown : now.levels ≡ old.levels ++ cells ∷ []
  pub are : length (roots cells) ≡ count
  pub others : followed_by cells (cells_after s old line count start)
      ≡ cells_on s (open_columns old) (row_cells_at s.text line.start line.stop) line.next
  pub found_are : found ≡ min count (length (row_cells_at s.text line.start line.stop))
  pub left : length (cells_left s.text start line.stop) ≡ length (row_cells_at s.text line.start line.stop) - count
  pub low : line.start ≤ now.at
  pub high : now.at ≤ line.next
  pub next : MayBegin s.text now.at line.stop start

-- it has no cell at first
pub row_begins : (s : Source) (old first now : BuilderView) (b : ItemBody) (line : HeldLine) (start : ℕ)
    → IsUtf8 s.text → IsInText s.text line → first ≡ stepped old line.start → Opens first now b
    → cells_left s.text start line.stop ≡ row_cells_at s.text line.start line.stop → HasRow s old b line now 0 0 start
row_begins s old first now b line start utf8 inside steps opens cells =
    let is : now ≡ opened old line.start b = rw (opens, steps) refl in
    let all : open_columns old - 0 ≡ open_columns old = omega arith in let here : now.at ≡ line.start = rw is refl in
    record {
      row = rw is refl;
      texts = no_text old now (rw is refl);
      cells = nil;
      shown = rw is refl;
      are = refl;
      others = rw (all, cells) refl;
      found_are = omega arith;
      left = omega (arith, ap length cells);
      low = omega (arith, here);
      high = omega (arith, here, inside.content, inside.ending);
      next = rw here (first_begins s.text line start utf8 inside cells);
    }

module _ {s : Source} {old : BuilderView} {b : ItemBody} {line : HeldLine} {now : BuilderView}
    {found count start : ℕ} (has : HasRow s old b line now found count start) where
  pub text_same : now.text ≡ old.text
  text_same = rw has.row refl

  -- where it is
  pub row_some : now.blocks ≡ [] → ⊥
  row_some none = some_opened now.blocks old.blocks (record { start = line.start; body = b }) (rw has.row refl) none

  pub may_add_cell : (at : ℕ) → is_leaf b ≡ false → old.text ≡ s.text → now.at ≤ at → IsCharBoundary s.text at
      → MayAddCell now at
  may_add_cell at other same low boundary =
      record { outside = rw has.row other; some = row_some; low = low; boundary = rw (text_same, same) boundary }

  -- the next cell of the line
  pub comes_next : (cell : Cell) → IsUtf8 s.text → IsInText s.text line
      → cells_left s.text start line.stop ≡ cell ∷ cells_left s.text (cell.end + 1) line.stop
      → IsNextCell s.text now.at line.stop cell
  comes_next cell utf8 inside e =
      let may = has.next cell _ e in next_in s.text now.at start line.stop cell _ utf8 may.0 may.2 may.1 inside.stop e

  -- a tree is put into it
  tree_put : (new : BuilderView) (to next more : ℕ) (tree : Forest Shown) → is_leaf b ≡ false
      → PutsTrees now new to tree → length (roots tree) ≡ 1
      → cells_after s old line count start ≡ followed_by tree (cells_after s old line (count + 1) next)
      → more ≡ min (count + 1) (length (row_cells_at s.text line.start line.stop))
      → length (cells_left s.text next line.stop) ≡ length (cells_left s.text start line.stop) - 1
      → now.at ≤ to → to ≤ line.next → MayBegin s.text to line.stop next → HasRow s old b line new more (count + 1) next
  tree_put new to next more tree other puts one others found_now left low high begins =
      let here : new.at ≡ to = rw puts.placed refl in
      record {
        row = rw (puts.placed, has.row, other) refl;
        texts = texts_after old now new has.texts puts.texts;
        cells = followed_by has.cells tree;
        shown = level_more old.levels has.cells tree now new has.shown puts.trees;
        are = omega (arith, trees_of has.cells tree, one, has.are);
        others = rw (followed_by-assoc has.cells tree _, ← others) has.others;
        found_are = found_now;
        left = omega (arith, left, has.left);
        low = omega (arith, here, low, has.low);
        high = omega (arith, here, high);
        next = rw here begins;
      }

  -- one is placed
  pub cell_added : (cell : Cell) (new : BuilderView) → is_leaf b ≡ false → IsUtf8 s.text → IsInText s.text line
      → count < open_columns old → cells_left s.text start line.stop ≡ cell ∷ cells_left s.text (cell.end + 1) line.stop
      → PutsTrees now new cell.end (shown_cells s (cell ∷ []))
      → HasRow s old b line new (count + 1) (count + 1) (cell.end + 1)
  cell_added cell new other utf8 inside less e puts =
      let next = comes_next cell utf8 inside e in let one = ap length e in
      tree_put new cell.end (cell.end + 1) (count + 1) (shown_cells s (cell ∷ [])) other puts refl
      (rw e (cells_on_some s (open_columns old) count cell (cells_left s.text (cell.end + 1) line.stop) line.next less))
      (omega (arith, one, has.left)) (omega (arith, one))
      (omega (arith, next.after, next.inside.after, next.inside.content, next.inside.before))
      (omega (arith, next.before, inside.ending)) (λ after rest is. ⊎_elim (λ (cut : cell.end < line.stop).
      let boundary = IsCharBoundary-after_ascii s.text cell.end utf8 (omega (arith, cut, inside.stop.0))
      (omega (arith, next.cut cut)) in
      (omega arith, omega (arith, cut), boundary))
      (λ (over : line.stop ≤ cell.end). cc (nothing_left s.text (cell.end + 1) line.stop (omega (arith, over)), is))
      (cases_lt cell.end line.stop))

  -- the line lacks one
  pub empty_added : (new : BuilderView) → is_leaf b ≡ false → IsInText s.text line → count < open_columns old
      → cells_left s.text start line.stop ≡ [] → PutsTrees now new line.next (empty_cells 1 line.next)
      → HasRow s old b line new found (count + 1) line.stop
  empty_added new other inside less none puts =
      let over = nothing_left s.text line.stop line.stop (omega arith) in let size = ap length none in
      tree_put new line.next line.stop found (empty_cells 1 line.next) other puts refl
      (rw (none, over) (cells_on_none s (open_columns old) count line.next less))
      (omega (arith, size, has.left, has.found_are))
      (omega (arith, size, ap length over)) has.high (omega arith) (λ cell rest is. cc (over, is))

  -- it is closed where the line ends
  module _ (moved : BuilderView) (steps : moved ≡ stepped now line.next) (columns : count ≡ open_columns old) where
    blocks : moved.blocks ≡ old.blocks ++ record { start = line.start; body = b } ∷ []
    blocks = rw (steps, has.row) refl

    levels : moved.levels ≡ old.levels ++ has.cells ∷ []
    levels = rw steps has.shown

    -- and has as many cells as the table around it has columns
    pub row_even : InnermostRowIsEven moved
    row_even outer table last inner cells e l t r =
        let around = (same_from_push (outer ++ table ∷ []) old.blocks last _
        (append_assoc outer (table ∷ []) (last ∷ []) ∙ (sym e ∙ blocks))).0 in
        let listed : moved.alignments ≡ old.alignments = rw (steps, has.row) refl in
        let shown : open_columns old ≡ length (alignments_shown old.alignments table.body) =
        rw (← around, innermost_of_opened outer table) refl in
        rw (listed, (same_from_push inner old.levels cells has.cells (sym l ∙ levels)).1)
        (omega (arith, has.are, columns, shown))

    pub row_puts : (new : BuilderView) → new ≡ closed moved new.levels → PutsBlock moved new → is_table_row b ≡ true
        → PutsTrees old new line.next (line_row s (open_columns old) b line)
    row_puts new closes put is =
        let at : moved.at ≡ line.next = rw steps refl in
        let none : open_columns old - count ≡ 0 = omega (arith, columns) in
        let lacking : 0 - length (cells_left s.text start line.stop) ≡ 0 = omega arith in
        let whole : has.cells ≡ cells_on s (open_columns old) (row_cells_at s.text line.start line.stop) line.next =
        sym (followed_by-nil has.cells) ∙ rw (none, lacking) at has.others in
        record {
          placed = rw (closes, steps, has.row, outer_of_opened old.blocks _) refl;
          texts = texts_after old now new has.texts (no_text now new (rw (closes, steps) refl));
          trees = rw (at, whole) at (row_closed old moved new b line.start has.cells is blocks levels put);
        }
