-- How many cells a line adds to the rows of blocks: none where the last of them, at any depth, is no open table.
use Rattle.std.proofs.Common.{◌≡◌, ℕ, ◌≤◌, Bool, true, false, refl, sym, ap, subst, arith}
use Rattle.std.proofs.lemmas.Bool.{true≢false}
use Rattle.std.specs.Prelude.{⊤}
use Rattle.markdown_base.specs.Forest.{Forest, nil, node}
use Rattle.markdown_base.specs.Source.{Source}
use Rattle.markdown_lines.specs.SourceLines.{SourceLine}
use Rattle.markdown_block_rules.specs.BlockGrowth as was
use Rattle.markdown_block_rules.specs.BlockGrowth.{Block, Kind, added_in, added_in_block, table_ended, with_ended_table}
use Rattle.markdown_block_rules.proofs.GrowthLemmas.{Fresh, Grown, Held, KindGrows, all_begun, inside_grown}
use Rattle.markdown_block_rules.proofs.GrowthLemmas.{later_grown, leaf_grown, table_made, table_made_behind}
use Rattle.markdown_block_rules.proofs.GrowthLemmas.{fenced_more, html_more, indented_more, metadata_closed}
use Rattle.markdown_block_rules.proofs.GrowthLemmas.{metadata_more, row_more, text_more, underlined}

-- ---- a table that is ended

-- the last block, at any depth, is ended where it is a table
abbrev pub IsEnded : Kind → Type 0
IsEnded (was.table_leaf ended head alignments rows) = ended ≡ true
IsEnded other = ⊤

abbrev pub EndsEnded : Forest Block → Type 0
EndsEnded nil = ⊤
EndsEnded (node b below nil) = IsEnded b.kind × EndsEnded below
EndsEnded (node b below (node c others after)) = EndsEnded (node c others after)

-- ending a table adds nothing
kind_same : (kind : Kind) → added_in_block (table_ended kind) ≡ added_in_block kind
kind_same (was.table_leaf ended head alignments rows) = refl
kind_same other = refl

pub ended_same : (blocks : Forest Block) → added_in (with_ended_table blocks) ≡ added_in blocks
ended_same nil = refl
ended_same (node b below nil) = omega (arith, kind_same b.kind, ended_same below)
ended_same (node b below (node c others after)) = omega (arith, ended_same (node c others after))

-- ---- what a line adds

-- what it begins has no rows
fresh_none : (next : ℕ) (top : Bool) (kind : Kind) → Fresh next top kind → added_in_block kind ≡ 0
fresh_none next top (was.table_leaf ended head alignments rows) fresh = absurd fresh
fresh_none next top other fresh = refl

pub begun_none : (next : ℕ) (top : Bool) (new : Forest Block) → Held (Fresh next) top new → added_in new ≡ 0
begun_none next top nil fresh = refl
begun_none next top (node b below after) fresh =
    omega (
      arith,
      fresh_none next top b.kind fresh.0,
      begun_none next false below fresh.1,
      begun_none next top after fresh.2,
    )

kind_adds : (l : SourceLine) (top : Bool) (kind grown : Kind) → KindGrows l top kind grown → IsEnded kind
    → added_in_block grown ≡ added_in_block kind
kind_adds l top _ _ (text_more lines m next) ended = refl
kind_adds l top _ _ (underlined level lines) ended = refl
kind_adds l top _ _ (indented_more lines more) ended = refl
kind_adds l top _ _ (fenced_more opening closed after lines more) ended = refl
kind_adds l top _ _ (html_more html closed after lines more) ended = refl
kind_adds l top _ _ (metadata_more kind closed lines m same) ended = refl
kind_adds l top _ _ (metadata_closed kind closed lines) ended = refl
kind_adds l top _ _ (row_more head alignments rows row) ended = absurd (true≢false (sym ended))

later_ends : (b : Block) (below after : Forest Block) → EndsEnded (node b below after) → EndsEnded after
later_ends b below nil ends = tt
later_ends b below (node c others after) ends = ends

pub grown_adds : (s : Source) (l : SourceLine) (top : Bool) (blocks grown : Forest Block) → Grown s l top blocks grown
    → EndsEnded blocks → added_in grown ≤ added_in blocks
grown_adds s l _ _ _ (all_begun top new fresh) ends = omega (arith, begun_none l.next top new fresh)
grown_adds s l _ _ _ (later_grown top b below after grown more) ends =
    omega (arith, grown_adds s l top after grown more (later_ends b below after ends))
grown_adds s l _ _ _ (inside_grown top b c below grown same more) ends =
    omega (arith, ap added_in_block same, grown_adds s l false below grown more ends.1)
grown_adds s l _ _ _ (leaf_grown top b c below kind is more) ends =
    omega (arith, ap added_in_block is, kind_adds l top kind c.kind more (subst IsEnded is ends.0))
grown_adds s l _ _ _ (table_made top b c below head row alignments reads is fits made) ends =
    omega (arith, ap added_in_block made)
grown_adds s l _ _ _ (table_made_behind top b c d below before head row alignments reads is fits rest made) ends =
    omega (arith, ap added_in_block made, ap added_in_block rest)

-- ---- the same, where it takes none away either

-- a table is ended, and nothing is in a paragraph
abbrev pub TakesNoRow : Kind → Forest Block → Type 0
TakesNoRow (was.table_leaf ended head alignments rows) below = ended ≡ true
TakesNoRow (was.paragraph_leaf lines) below = below ≡ nil
TakesNoRow other below = ⊤

-- this is so of the last block, at any depth
abbrev pub TakeNoRow : Forest Block → Type 0
TakeNoRow nil = ⊤
TakeNoRow (node b below nil) = TakesNoRow b.kind below × TakeNoRow below
TakeNoRow (node b below (node c others after)) = TakeNoRow (node c others after)

row_ended : (kind : Kind) (below : Forest Block) → TakesNoRow kind below → IsEnded kind
row_ended (was.table_leaf ended head alignments rows) below takes = takes
row_ended other below takes = tt

later_takes : (b : Block) (below after : Forest Block) → TakeNoRow (node b below after) → TakeNoRow after
later_takes b below nil takes = tt
later_takes b below (node c others after) takes = takes

pub grown_same : (s : Source) (l : SourceLine) (top : Bool) (blocks grown : Forest Block) → Grown s l top blocks grown
    → TakeNoRow blocks → added_in grown ≡ added_in blocks
grown_same s l _ _ _ (all_begun top new fresh) takes = begun_none l.next top new fresh
grown_same s l _ _ _ (later_grown top b below after grown more) takes =
    omega (arith, grown_same s l top after grown more (later_takes b below after takes))
grown_same s l _ _ _ (inside_grown top b c below grown same more) takes =
    omega (arith, ap added_in_block same, grown_same s l false below grown more takes.1)
grown_same s l _ _ _ (leaf_grown top b c below kind is more) takes =
    omega (
      arith,
      ap added_in_block is,
      kind_adds l top kind c.kind more (row_ended kind below (subst (λ k. TakesNoRow k below) is takes.0)),
    )
grown_same s l _ _ _ (table_made top b c below head row alignments reads is fits made) takes =
    omega (
      arith,
      ap added_in_block is,
      ap added_in_block made,
      ap added_in (subst (λ k. TakesNoRow k below) is takes.0),
    )
grown_same s l _ _ _ (table_made_behind top b c d below before head row alignments reads is fits rest made) takes =
    omega (
      arith,
      ap added_in_block is,
      ap added_in_block made,
      ap added_in_block rest,
      ap added_in (subst (λ k. TakesNoRow k below) is takes.0),
    )
