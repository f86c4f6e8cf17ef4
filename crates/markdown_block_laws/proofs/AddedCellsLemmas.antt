-- How many cells are added to the rows of a text.
use Rattle.std.proofs.Common.{◌≡◌, ℕ, ◌≤◌, Bool, true, false, ◌==◌, List, [], ◌∷◌, ◌++◌, Option, Some, None}
use Rattle.std.proofs.Common.{IfSome, refl, sym, ◌∙◌, subst, arith, fold, length, nat_le, sum_by}
use Rattle.std.proofs.lemmas.Bool.{true≢false}
use Rattle.std.proofs.lemmas.Bool.Decides.{nat_tests}
use Rattle.std.proofs.lemmas.List.Sums.{sum_by-append}
use Rattle.std.specs.Prelude.{⊤, if◌then◌else◌}
use Rattle.markdown_base.specs.Forest.{Forest, nil, node, preorder}
use Rattle.markdown_base.specs.declared.tag.Alignment.{Alignment}
use Rattle.markdown_base.specs.Source.{Source}
use Rattle.markdown_lines.specs.SourceLines.{SourceLine, lines_of_text}
use Rattle.markdown_lines.specs.TableRows.{has_cut}
use Rattle.markdown_block_rules.specs.BlockGrowth as was
use Rattle.markdown_block_rules.specs.BlockGrowth.{Block, Kind, added_in, added_in_block, blocks_of, table_ended}
use Rattle.markdown_block_rules.specs.BlockGrowth.{with_ended_table, with_line, with_next_line, within_limit}
use Rattle.markdown_block_laws.specs.TableLaws.{FewCellsAreAdded, cells_lacking, lacking_in, lacking_in_rows}
use Rattle.markdown_block_rules.specs.TableLines.{all_added, as_many, cells_of, delimiter_row_of, fitting, most_added}
use Rattle.markdown_block_rules.specs.TableLines.{reads_tables}
use Rattle.markdown_block_rules.proofs.AddedCellsLemmas.{EndsEnded, IsEnded, ended_same, grown_adds}
use Rattle.markdown_block_rules.proofs.GrowthLemmas.{Fresh, Held, KindGrows, line_grows}
use Rattle.markdown_block_rules.proofs.GrowthLemmas.{fenced_more, html_more, indented_more, metadata_closed}
use Rattle.markdown_block_rules.proofs.GrowthLemmas.{metadata_more, row_more, text_more, underlined}
use Rattle.markdown_block_laws.proofs.KeptLemmas.{IsKept, IsWhole, text_held, text_whole}

kind_ended : (kind : Kind) → IsEnded (table_ended kind)
kind_ended (was.table_leaf ended head alignments rows) = refl
kind_ended other = tt

ended_ends : (blocks : Forest Block) → EndsEnded (with_ended_table blocks)
ended_ends nil = tt
ended_ends (node b below nil) = (kind_ended b.kind, ended_ends below)
ended_ends (node b below (node c others nil)) = ended_ends (node c others nil)
ended_ends (node b below (node c others (node d inner after))) = ended_ends (node c others (node d inner after))

-- no line adds more than may be added
next_few : (s : Source) → reads_tables s ≡ true → (blocks : Forest Block) (l : SourceLine)
    → added_in blocks ≤ most_added s.text → added_in (with_next_line s blocks l) ≤ most_added s.text
next_few s reads blocks l few =
    subst (λ on. added_in (if on then within_limit s l blocks (with_line s blocks l) else with_line s blocks l)
    ≤ most_added s.text) (sym reads)
    (decided (nat_le (added_in (with_line s blocks l)) (most_added s.text)) refl)
  where
    decided : (test : Bool) → nat_le (added_in (with_line s blocks l)) (most_added s.text) ≡ test
        → added_in (if test then with_line s blocks l else with_line s (with_ended_table blocks) l)
        ≤ most_added s.text
    decided true is = grind (arith, nat_tests, is)
    decided false is =
        let ended = with_ended_table blocks in
        omega (
          arith,
          few,
          ended_same blocks,
          grown_adds s l true ended (with_line s ended l) (line_grows s ended l) (ended_ends blocks),
        )

lines_few : (s : Source) → reads_tables s ≡ true → (lines : List SourceLine) (blocks : Forest Block)
    → added_in blocks ≤ most_added s.text → added_in (fold (with_next_line s) blocks lines) ≤ most_added s.text
lines_few s reads [] blocks few = few
lines_few s reads (l ∷ lines) blocks few =
    lines_few s reads lines (with_next_line s blocks l) (next_few s reads blocks l few)

-- tables are read where there is one, and its head lacks no cell
abbrev HasWholeHead : Source → Bool → Kind → Type 0
HasWholeHead s top (was.table_leaf ended head alignments rows) =
    (reads_tables s ≡ true) × (cells_lacking (length alignments) head ≡ 0)
HasWholeHead s top other = ⊤

many_whole : (head : SourceLine) (found : Option (List Alignment))
    → IfSome (as_many (length (cells_of head)) found) (λ alignments. cells_lacking (length alignments) head ≡ 0)
many_whole head None = tt
many_whole head (Some alignments) = decided (length alignments == length (cells_of head)) refl
  where
    decided : (test : Bool) → (length alignments == length (cells_of head)) ≡ test
        → IfSome (if test then Some alignments else None)
        (λ alignments. cells_lacking (length alignments) head ≡ 0)
    decided true is = grind (arith, nat_tests, is)
    decided false is = tt

fitting_whole : (s : Source) (head row : SourceLine)
    → IfSome (fitting s head row) (λ alignments. cells_lacking (length alignments) head ≡ 0)
fitting_whole s head row = decided (has_cut head.left.bytes)
  where
    decided : (test : Bool)
        → IfSome (if test then as_many (length (cells_of head)) (delimiter_row_of s row) else None)
        (λ alignments. cells_lacking (length alignments) head ≡ 0)
    decided true = many_whole head (delimiter_row_of s row)
    decided false = tt

fresh_whole : (s : Source) (next : ℕ) (top : Bool) (kind : Kind) → Fresh next top kind → HasWholeHead s top kind
fresh_whole s next top (was.table_leaf ended head alignments rows) fresh = absurd fresh
fresh_whole s next top other fresh = tt

grows_whole : (s : Source) (l : SourceLine) (top : Bool) (kind grown : Kind) → KindGrows l top kind grown
    → HasWholeHead s top kind → HasWholeHead s top grown
grows_whole s l top _ _ (text_more lines m next) whole = tt
grows_whole s l top _ _ (underlined level lines) whole = tt
grows_whole s l top _ _ (indented_more lines more) whole = tt
grows_whole s l top _ _ (fenced_more opening closed after lines more) whole = tt
grows_whole s l top _ _ (html_more html closed after lines more) whole = tt
grows_whole s l top _ _ (metadata_more kind closed lines m same) whole = tt
grows_whole s l top _ _ (metadata_closed kind closed lines) whole = tt
grows_whole s l top _ _ (row_more head alignments rows row) whole = whole

ended_whole : (s : Source) (top : Bool) (kind : Kind) → HasWholeHead s top kind → HasWholeHead s top (table_ended kind)
ended_whole s top (was.table_leaf ended head alignments rows) whole = whole
ended_whole s top other whole = whole

whole_kept : (s : Source) → IsKept s IsWhole (HasWholeHead s)
whole_kept s = record {
  fresh = λ l whole. fresh_whole s l.next;
  grows = λ l whole. grows_whole s l;
  cut = λ top lines head whole. tt;
  tables = λ top head row alignments reads fits. (
    reads,
    subst (λ (found : Option (List Alignment)).
        IfSome found (λ alignments. cells_lacking (length alignments) head ≡ 0)) fits (fitting_whole s head row),
  );
  ended = ended_whole s;
}

-- the cells that rows lack are those that are added
rows_lack : (columns : ℕ) (rows : List SourceLine) → sum_by (cells_lacking columns) rows ≡ all_added columns rows
rows_lack columns [] = refl
rows_lack columns (row ∷ rows) =
    omega (arith, sum_by-append (cells_lacking columns) (row ∷ []) rows, rows_lack columns rows)

kind_lacks : (s : Source) (top : Bool) (kind : Kind) → HasWholeHead s top kind
    → lacking_in_rows kind ≡ added_in_block kind
kind_lacks s top (was.table_leaf ended head alignments rows) whole =
    omega (
      arith,
      whole.1,
      sum_by-append (cells_lacking (length alignments)) (head ∷ []) rows,
      rows_lack (length alignments) rows,
    )
kind_lacks s top other whole = refl

abbrev lacking_in_one : Block → ℕ
lacking_in_one b = lacking_in_rows b.kind

blocks_lack : (s : Source) (top : Bool) (blocks : Forest Block) → Held (HasWholeHead s) top blocks
    → lacking_in blocks ≡ added_in blocks
blocks_lack s top nil held = refl
blocks_lack s top (node b below after) held =
    omega (
      arith,
      kind_lacks s top b.kind held.0,
      blocks_lack s false below held.1,
      blocks_lack s top after held.2,
      sum_by-append lacking_in_one (b ∷ []) (preorder below ++ preorder after),
      sum_by-append lacking_in_one (preorder below) (preorder after),
    )

-- where tables are not read, there are none
kind_none : (s : Source) → reads_tables s ≡ false → (top : Bool) (kind : Kind) → HasWholeHead s top kind
    → added_in_block kind ≡ 0
kind_none s reads top (was.table_leaf ended head alignments rows) whole =
    absurd (true≢false (sym whole.0 ∙ reads))
kind_none s reads top other whole = refl

none_added : (s : Source) → reads_tables s ≡ false → (top : Bool) (blocks : Forest Block)
    → Held (HasWholeHead s) top blocks → added_in blocks ≡ 0
none_added s reads top nil held = refl
none_added s reads top (node b below after) held =
    omega (
      arith,
      kind_none s reads top b.kind held.0,
      none_added s reads false below held.1,
      none_added s reads top after held.2,
    )

pub few_added : FewCellsAreAdded
few_added s = decided (reads_tables s) refl
  where
    held : Held (HasWholeHead s) true (blocks_of s)
    held = text_held s IsWhole (HasWholeHead s) (whole_kept s) (text_whole s.text)

    decided : (reads : Bool) → reads_tables s ≡ reads → lacking_in (blocks_of s) ≤ most_added s.text
    decided true is =
        omega (arith, blocks_lack s true (blocks_of s) held, lines_few s is (lines_of_text s.text) nil (omega arith))
    decided false is =
        omega (arith, blocks_lack s true (blocks_of s) held, none_added s is true (blocks_of s) held)
