-- The form of a reference where no text is left.
use Rattle.std.proofs.Common.{◌≡◌, ℕ, ◌+◌, ◌≤◌, ◌&&◌, Bool, true, false, List, [], Option, length, refl}
use Rattle.std.specs.Prelude.{if◌then◌else◌}
use Rattle.std.proofs.lemmas.List.{drop_all}
use Rattle.markdown_base.specs.declared.item.Item.{Item}
use Rattle.markdown_brackets.specs.Reference.{collapsed, form_at, form_by_label, is_closing_bracket, is_opener}
use Rattle.markdown_brackets.specs.Reference.{bracket_label, shortcut, stands_at}
use Rattle.markdown_brackets.specs.declared.footnote.FootnoteStyle.{FootnoteStyle}

-- there is no label after the text's end
by_items : (style : FootnoteStyle) (skipped : List ℕ → Option ℕ) (in_table : Bool) (at : ℕ) (empty starts : Bool)
    → (if empty then collapsed else if starts then form_by_label at (bracket_label style skipped in_table []) else
    shortcut)
    ≡ (if empty then collapsed else shortcut)
by_items style skipped in_table at true starts = refl
by_items style skipped in_table at false true = refl
by_items style skipped in_table at false false = refl

pub form_past : (style : FootnoteStyle) (skipped : List ℕ → Option ℕ) (in_table : Bool) (text : List ℕ) (at : ℕ)
    (next after : Option Item) → length text ≤ at
    → form_at style skipped in_table text at next after
    ≡ (if stands_at at is_opener next && stands_at (at + 1) is_closing_bracket after
    then collapsed else shortcut)
form_past style skipped in_table text at next after past =
    rw (drop_all at text past) (by_items style skipped in_table at
    (stands_at at is_opener next && stands_at (at + 1) is_closing_bracket after) (stands_at at (λ b. true) next))
