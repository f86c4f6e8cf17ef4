-- How the items of a line's content are read: plain bytes are skipped together, and what is found at a special byte is
-- put before the items that follow it.
use Rattle.std.proofs.Common.{◌≡◌, ℕ, zero, suc, ◌+◌, ◌<◌, ◌≤◌, List, ◌++◌, refl, sym, ap, ◌∙◌}
use Rattle.std.proofs.Common.{true, false, arith, nat_le}
use Rattle.std.specs.Prelude.{slice_index}
use Rattle.std.proofs.lemmas.Bool.Decides.{nat_tests}
use Rattle.std.proofs.lemmas.List.{append_assoc}
use Rattle.markdown_builder.specs.Shown.{Shown}
use Rattle.markdown_items.specs.declared.found.LineRange.{LineRange}
use Rattle.markdown_items.specs.ContentItems.{items_read_from, put_found, text_between}
use Rattle.markdown_items.specs.Found.{found_at}
use Rattle.markdown_items.specs.FoundItems.{found_items, items_at, text_from, read_on}
use Rattle.markdown_items.specs.FoundView as view
use Rattle.markdown_items.specs.FoundView.{FoundView}
use Rattle.markdown_items.specs.LineItems.{is_special}

-- one plain byte
plain_byte : (n : ℕ) (text : List ℕ) (line : LineRange) (from at : ℕ) → at < line.end
    → is_special line.extensions.dashes (slice_index text at) ≡ false
    → items_read_from (suc n) text line from at ≡ items_read_from n text line from (at + 1)
unfolding items_read_from
plain_byte n text line from at more plain =
    let test : nat_le line.end at ≡ false = grind (arith, nat_tests) in rw (test, plain) refl

-- as many plain bytes as there are
pub plain_bytes : (count n : ℕ) (text : List ℕ) (line : LineRange) (from at : ℕ) → at + count ≤ line.end
    → ((i : ℕ) → at ≤ i → i < at + count → is_special line.extensions.dashes (slice_index text i) ≡ false)
    → items_read_from (count + n) text line from at ≡ items_read_from n text line from (at + count)
plain_bytes zero n text line from at within plain =
    let none : at + 0 ≡ at = omega arith in
    let fuel : 0 + n ≡ n = omega arith in
    ap (λ k. items_read_from k text line from at) fuel ∙ ap (λ i. items_read_from n text line from i) (sym none)
plain_bytes (suc count) n text line from at within plain =
    let fuel : suc count + n ≡ suc (count + n) = omega arith in
    let next : at + 1 + count ≡ at + suc count = omega arith in
    ap (λ k. items_read_from k text line from at) fuel
    ∙ (plain_byte (count + n) text line from at (omega (arith, within)) (plain at (omega arith) (omega arith))
    ∙ (plain_bytes count n text line from (at + 1) (omega (arith, within))
    (λ i low high. plain i (omega (arith, low)) (omega (arith, high)))
    ∙ ap (λ i. items_read_from n text line from i) next))

-- what is found, before what follows it
put_before : (text : List ℕ) (line : LineRange) (more : ℕ → ℕ → List Shown) (from at : ℕ) (f : FoundView)
    → put_found text line more from at f
    ≡ found_items text line from at f ++ more (text_from from at f) (read_on at f)
put_before text line more from at (view.Text next) = refl
put_before text line more from at view.Escape =
    sym (append_assoc (text_between text line from at) (items_at at view.Escape) (more (at + 1) (at + 2)))
put_before text line more from at (view.Mark mark) =
    sym (append_assoc (text_between text line from at) (items_at at (view.Mark mark)) (more (at + 1) (at + 1)))
put_before text line more from at view.Image =
    sym (append_assoc (text_between text line from at) (items_at at view.Image) (more (at + 2) (at + 2)))
put_before text line more from at (view.Backticks stop) =
    sym (append_assoc (text_between text line from at) (items_at at (view.Backticks stop)) (more stop stop))
put_before text line more from at (view.EscapedBackticks stop) =
    sym (append_assoc (text_between text line from at) (items_at at (view.EscapedBackticks stop)) (more stop stop))
put_before text line more from at (view.DelimiterRun stop flags) = refl
put_before text line more from at (view.Entity stop characters) =
    sym (append_assoc (text_between text line from at) (items_at at (view.Entity stop characters)) (more stop stop))
put_before text line more from at (view.Dashes stop) =
    sym (append_assoc (text_between text line from at) (items_at at (view.Dashes stop)) (more stop stop))
put_before text line more from at view.Ellipsis =
    sym (append_assoc (text_between text line from at) (items_at at view.Ellipsis) (more (at + 3) (at + 3)))

-- a special byte
pub special_byte : (n : ℕ) (text : List ℕ) (line : LineRange) (from at : ℕ) → at < line.end
    → is_special line.extensions.dashes (slice_index text at) ≡ true
    → items_read_from (suc n) text line from at
    ≡ found_items text line from at (found_at line text at)
    ++ items_read_from n text line (text_from from at (found_at line text at)) (read_on at (found_at line text at))
unfolding items_read_from
special_byte n text line from at more special =
    let test : nat_le line.end at ≡ false = grind (arith, nat_tests) in
    rw (test, special) (put_before text line (items_read_from n text line) from at (found_at line text at))

-- the end
pub no_byte : (n : ℕ) (text : List ℕ) (line : LineRange) (from : ℕ)
    → items_read_from (suc n) text line from line.end ≡ text_between text line from line.end
unfolding items_read_from
no_byte n text line from = let test : nat_le line.end line.end ≡ true = grind (arith, nat_tests) in rw test refl
