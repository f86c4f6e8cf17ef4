-- Facts of the kinds of a text's blocks that each line of the text keeps.
use Rattle.std.proofs.Common.{◌≡◌, ℕ, zero, suc, ◌+◌, ◌-◌, ◌<◌, Bool, true, false, not, cond, ◌||◌, ◌==◌, List, [], ◌∷◌}
use Rattle.std.proofs.Common.{◌++◌, Some, None, refl, sym, subst, fold, length, drop, nat_le, arith}
use Rattle.std.proofs.lemmas.Bool.{true≢false}
use Rattle.std.specs.Prelude.{if◌then◌else◌}
use Rattle.std.specs.List.{AllByRecursion, prefix_len}
use Rattle.markdown_base.specs.Forest.{Forest, nil, node}
use Rattle.markdown_base.specs.declared.tag.Alignment.{Alignment}
use Rattle.markdown_base.specs.Source.{Source}
use Rattle.markdown_lines.specs.Lines.{ending_length, is_line_ending, length_of_ending}
use Rattle.markdown_lines.specs.SourceLines.{SourceLine, first_line, lines_from, lines_of_text}
use Rattle.markdown_scan.specs.LineEnd.{begins_line_feed}
use Rattle.markdown_block_rules.specs.BlockGrowth as was
use Rattle.markdown_block_rules.specs.BlockGrowth.{Block, Kind, added_in, blocks_of, table_ended, with_ended_table}
use Rattle.markdown_block_rules.specs.BlockGrowth.{with_line, with_next_line, within_limit}
use Rattle.markdown_block_rules.specs.TableLines.{fitting, most_added, reads_tables}
use Rattle.markdown_block_rules.proofs.BlockBeginningsLemmas.{either}
use Rattle.markdown_block_rules.proofs.GrowthLemmas.{Fresh, Grown, Held, KindGrows, line_grows, all_begun, inside_grown}
use Rattle.markdown_block_rules.proofs.GrowthLemmas.{later_grown, leaf_grown, table_made, table_made_behind}

-- a fact of kinds holds for what a line begins, and each line keeps it; each line has another fact
pub record IsKept (s : Source) (has : SourceLine → Type 0) (p : Bool → Kind → Type 0) : Type 0 where
  pub fresh : (l : SourceLine) → has l → (top : Bool) (kind : Kind) → Fresh l.next top kind → p top kind
  pub grows : (l : SourceLine) → has l → (top : Bool) (kind grown : Kind) → KindGrows l top kind grown → p top kind
      → p top grown
  pub cut : (top : Bool) (lines : List SourceLine) (head : SourceLine)
      → p top (was.paragraph_leaf (lines ++ head ∷ [])) → p top (was.paragraph_leaf lines)
  pub tables : (top : Bool) (head row : SourceLine) (alignments : List Alignment) → reads_tables s ≡ true
      → fitting s head row ≡ Some alignments → p top (was.table_leaf false head alignments [])
  pub ended : (top : Bool) (kind : Kind) → p top kind → p top (table_ended kind)

module _ (s : Source) (has : SourceLine → Type 0) (p : Bool → Kind → Type 0) (kept : IsKept s has p) where
  fresh_held : (l : SourceLine) → has l → (top : Bool) (new : Forest Block) → Held (Fresh l.next) top new
      → Held p top new
  fresh_held l is top nil fresh = tt
  fresh_held l is top (node b below after) fresh = (
    kept.fresh l is top b.kind fresh.0,
    fresh_held l is false below fresh.1,
    fresh_held l is top after fresh.2,
  )

  grown_held : (l : SourceLine) → has l → (top : Bool) (blocks grown : Forest Block) → Grown s l top blocks grown
      → Held p top blocks → Held p top grown
  grown_held l is _ _ _ (all_begun top new fresh) held = fresh_held l is top new fresh
  grown_held l is _ _ _ (later_grown top b below after grown more) held =
      (held.0, held.1, grown_held l is top after grown more held.2)
  grown_held l is _ _ _ (inside_grown top b c below grown same more) held =
      (subst (p top) (sym same) held.0, grown_held l is false below grown more held.1, tt)
  grown_held l is _ _ _ (leaf_grown top b c below kind was more) held =
      (kept.grows l is top kind c.kind more (subst (p top) was held.0), held.1, tt)
  grown_held l is _ _ _ (table_made top b c below head row alignments reads was fits made) held =
      (subst (p top) (sym made) (kept.tables top head row alignments reads fits), tt, tt)
  grown_held l is _ _ _ (table_made_behind top b c d below before head row alignments reads was fits rest made) held = (
    subst (p top) (sym rest) (kept.cut top before head (subst (p top) was held.0)),
    tt,
    (subst (p top) (sym made) (kept.tables top head row alignments reads fits), tt, tt),
  )

  ended_held : (top : Bool) (blocks : Forest Block) → Held p top blocks → Held p top (with_ended_table blocks)
  ended_held top nil held = tt
  ended_held top (node b below nil) held = (kept.ended top b.kind held.0, ended_held false below held.1, tt)
  ended_held top (node b below (node c others after)) held =
      (held.0, held.1, ended_held top (node c others after) held.2)

  line_held : (l : SourceLine) → has l → (blocks : Forest Block) → Held p true blocks
      → Held p true (with_line s blocks l)
  line_held l is blocks held = grown_held l is true blocks (with_line s blocks l) (line_grows s blocks l) held

  next_held : (l : SourceLine) → has l → (blocks : Forest Block) → Held p true blocks
      → Held p true (with_next_line s blocks l)
  next_held l is blocks held =
      let grown = with_line s blocks l in
      either (Held p true) (reads_tables s) (within_limit s l blocks grown) grown
      (either (Held p true) (nat_le (added_in grown) (most_added s.text)) grown
      (with_line s (with_ended_table blocks) l) (line_held l is blocks held)
      (line_held l is (with_ended_table blocks) (ended_held true blocks held))) (line_held l is blocks held)

  lines_held : (lines : List SourceLine) → AllByRecursion has lines → (blocks : Forest Block) → Held p true blocks
      → Held p true (fold (with_next_line s) blocks lines)
  lines_held [] each blocks held = held
  lines_held (l ∷ lines) each blocks held =
      lines_held lines each.1 (with_next_line s blocks l) (next_held l each.0 blocks held)

  -- what is kept holds for the blocks of a text
  pub text_held : AllByRecursion has (lines_of_text s.text) → Held p true (blocks_of s)
  text_held each = lines_held (lines_of_text s.text) each nil tt

-- a line of a text owes no column of a tab, and another line begins after its first byte or later
abbrev pub IsWhole : SourceLine → Type 0
IsWhole l = (0 < l.next) × (l.left.owed ≡ 0)

-- a line ending has a byte
ending_some : (feed return more : Bool) → (feed || return) ≡ true
    → 0 < length_of_ending (if feed then Some 1 else if return then (if more then Some 2 else Some 1) else None)
ending_some true return more is = omega arith
ending_some false true true is = omega arith
ending_some false true false is = omega arith
ending_some false false more is = absurd (true≢false (sym is))

line_some : (at b : ℕ) (bytes : List ℕ) → 0 < (first_line at (b ∷ bytes)).next
line_some at b bytes = decided (is_line_ending b) refl
  where
    content : Bool → ℕ
    content ends = cond (not ends) (1 + prefix_len (λ c. not (is_line_ending c)) bytes) 0

    decided : (ends : Bool) → is_line_ending b ≡ ends
        → 0 < at + content ends + ending_length (drop (content ends) (b ∷ bytes))
    decided true is = omega (arith, ending_some (b == 10) (b == 13) (begins_line_feed bytes) is)
    decided false is = omega arith

lines_whole : (n at : ℕ) (bytes : List ℕ) → AllByRecursion IsWhole (lines_from n at bytes)
unfolding lines_from
lines_whole zero at bytes = tt
lines_whole (suc n) at [] = tt
lines_whole (suc n) at (b ∷ bytes) =
    let next = (first_line at (b ∷ bytes)).next in
    ((line_some at b bytes, refl), lines_whole n next (drop (next - at) (b ∷ bytes)))

pub text_whole : (text : List ℕ) → AllByRecursion IsWhole (lines_of_text text)
text_whole text = lines_whole (length text) 0 text
