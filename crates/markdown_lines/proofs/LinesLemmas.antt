-- Laws of runs of bytes: one byte more, and where a text may be cut.
use Rattle.std.proofs.Common.{◌≡◌, ◌≢◌, ℕ, ◌+◌, ◌-◌, ◌<◌, ◌≤◌, List, [], ◌∷◌, Bool, true, false, length, get_or, refl}
use Rattle.std.proofs.Common.{sym, ap, ◌∙◌, arith, slice_index, slice_range, ⊎_elim}
use Rattle.std.proofs.lemmas.Bool.{or_from, and_parts, cases_eq, cases_lt}
use Rattle.std.proofs.lemmas.Bool.Decides.{nat_tests}
use Rattle.std.proofs.lemmas.Str.{IsCharBoundary-after_ascii}
use Rattle.std.specs.List.{list_all, list_any}
use Rattle.std.specs.Prelude.{nat_lt}
use Rattle.std.specs.Str.{IsUtf8, IsCharBoundary}
use Rattle.markdown_base.proofs.ByteListLemmas.{byte_of_part, part_length}
use Rattle.markdown_lines.specs.Lines.{is_space_or_tab, is_line_ending, is_in_blank_line, AllPass, IsLineEnd}

-- spaces, tabs and line endings are ASCII
pub space_ascii : (byte : ℕ) → is_space_or_tab byte ≡ true → byte < 128
space_ascii byte h = grind (arith, nat_tests)

pub ending_ascii : (byte : ℕ) → is_line_ending byte ≡ true → byte < 128
ending_ascii byte h = grind (arith, nat_tests)

pub blank_ascii : (byte : ℕ) → is_in_blank_line byte ≡ true → byte < 128
blank_ascii byte h = grind (arith, nat_tests)

-- one byte more passes
pub AllPass-more : (test : ℕ → Bool) (text : List ℕ) (from to : ℕ) → AllPass test text from to
    → test (get_or text to 0) ≡ true → AllPass test text from (to + 1)
AllPass-more test text from to passes here at low high =
    ⊎_elim (λ (e : at ≡ to). rw e here) (λ (d : at ≢ to). passes at low (omega (arith, d, high))) (cases_eq at to)

-- one byte more passes in front
pub AllPass-front : (test : ℕ → Bool) (text : List ℕ) (from to : ℕ) → 0 < from → AllPass test text from to
    → test (get_or text (from - 1) 0) ≡ true → AllPass test text (from - 1) to
AllPass-front test text from to some passes here at low high =
    ⊎_elim (λ (e : at ≡ from - 1). rw e here) (λ (d : at ≢ from - 1). passes at (omega (arith, d, low)) high)
    (cases_eq at (from - 1))

-- no byte passes where there is none
pub AllPass-none : (test : ℕ → Bool) (text : List ℕ) (from : ℕ) → AllPass test text from from
AllPass-none test text from at low high = absurd (omega (arith, low, high))

-- a step over a byte that passes an ASCII test keeps to characters
pub past_ascii : (text : List ℕ) (at : ℕ) → IsUtf8 text → at < length text → get_or text at 0 < 128
    → IsCharBoundary text (at + 1)
past_ascii text at u l a = IsCharBoundary-after_ascii text at u l a

-- a byte is greater than the carriage return
abbrev pub is_after_endings : ℕ → Bool
is_after_endings byte = nat_lt 13 byte

after_is_none : (byte : ℕ) → is_after_endings byte ≡ true → is_line_ending byte ≡ false
after_is_none byte h = grind (arith, nat_tests)

-- among bytes that are all greater than the carriage return none begins a line ending
pub none_ends : (bytes : List ℕ) → list_all is_after_endings bytes ≡ true → list_any is_line_ending bytes ≡ false
none_ends [] h = refl
none_ends (byte ∷ bytes) h =
    let both = and_parts (is_after_endings byte) (list_all is_after_endings bytes) h in
    or_from (is_line_ending byte) (list_any is_line_ending bytes) (after_is_none byte both.0)
    (none_ends bytes both.1)

-- where no byte ends the line up to a part, and none of the first bytes of the part does, none does up to there
pub content_through : (bytes : List ℕ) (from start stop before : ℕ) → start ≤ stop → stop ≤ length bytes
    → ((at : ℕ) → from ≤ at → at < start → is_line_ending (slice_index bytes at) ≡ false)
    → IsLineEnd (slice_range bytes start stop) 0 before
    → (at : ℕ) → from ≤ at → at < start + before → is_line_ending (slice_index bytes at) ≡ false
content_through bytes from start stop before order within earlier end at low high =
    ⊎_elim (λ (h : at < start). earlier at low h)
    (λ (h : start ≤ at).
    let few = end.high in
    let inside : at - start < stop - start = omega (arith, h, high, few, part_length bytes start stop within) in
    let here = end.content (at - start) (omega arith) (omega (arith, h, high)) in
    let position : start + (at - start) ≡ at = omega (arith, h) in
    let same = byte_of_part bytes start stop (at - start) inside ∙ ap (λ k. get_or bytes k 0) position in
    ap is_line_ending (sym same) ∙ here)
    (cases_lt at start)

-- a line ending that begins within a part begins in the bytes
pub ends_in_part : (bytes : List ℕ) (start stop before : ℕ) → stop ≤ length bytes
    → IsLineEnd (slice_range bytes start stop) 0 before → before < stop - start
    → is_line_ending (slice_index bytes (start + before)) ≡ true
ends_in_part bytes start stop before within end inside =
    ap is_line_ending (sym (byte_of_part bytes start stop before inside))
    ∙ end.stops (omega (arith, inside, part_length bytes start stop within))

-- what is found in a part, where no byte ends the line before it, is where the line ends: in a part that goes up to the
-- end of the bytes also where nothing is found
pub line_end_in : (bytes : List ℕ) (from start stop before : ℕ) → from ≤ start → start ≤ stop → stop ≤ length bytes
    → ((at : ℕ) → from ≤ at → at < start → is_line_ending (slice_index bytes at) ≡ false)
    → IsLineEnd (slice_range bytes start stop) 0 before
    → (start + before < length bytes → before < stop - start) → IsLineEnd bytes from (start + before)
line_end_in bytes from start stop before begun order within earlier end inside =
    let few = end.high in
    record {
      low = omega (arith, begun);
      high = omega (arith, few, part_length bytes start stop within, within, order);
      content = content_through bytes from start stop before order within earlier end;
      stops = λ (h : start + before < length bytes). ends_in_part bytes start stop before within end (inside h);
    }
