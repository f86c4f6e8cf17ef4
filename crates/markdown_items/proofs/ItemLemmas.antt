-- Where the bytes that begin items end: between characters.
use Rattle.std.proofs.Common.{◌≡◌, ◌≢◌, ℕ, zero, suc, ◌+◌, ◌-◌, ◌<◌, ◌≤◌, List, Bool, true, false, Option, Some, None}
use Rattle.std.proofs.Common.{length, get_or, refl, sym, ap, ◌∙◌, arith, slice_range, slice_index}
use Rattle.std.proofs.lemmas.Bool.Decides.{nat_tests}
use Rattle.std.proofs.lemmas.List.Sums.{prefix_len_is}
use Rattle.std.proofs.lemmas.Option.{same_Some}
use Rattle.std.proofs.lemmas.Str.{IsCharBoundary-after_ascii}
use Rattle.std.specs.Prelude.{IfSome, option_map, ◌==◌, codes}
use Rattle.std.specs.List.{prefix_len}
use Rattle.std.specs.Str.{IsUtf8, IsCharBoundary}
use Rattle.std.proofs.lemmas.Bool.{eq-eqb}
use Rattle.markdown_base.proofs.ByteListLemmas.{byte_of_part, part_length}
use Rattle.markdown_scan.proofs.BeginsWithLemmas.{begins_with-fits, begins_with-reads}
use Rattle.markdown_scan.specs.Beginnings.{begins_with}
use Rattle.markdown_scan.specs.NamedEntity.{in_utf8}
use Rattle.markdown_items.specs.Found.{entity_found}
use Rattle.markdown_items.specs.FoundView as view
use Rattle.markdown_scan.specs.Entity.{entity}
use Rattle.markdown_scan.specs.declared.entity.EntityNames.{EntityNames}
use Rattle.markdown_scan.specs.ScanLaws.{EntityBeginsAndEnds, StandsBetween}
use Rattle.markdown_items.specs.FoundFits.{IsAtSpecial, FoundFits, LiesFurther, next_after}
use Rattle.markdown_items.specs.LineItems.{is_special, IsMaximalRun, run_end}
use Rattle.markdown_items.specs.declared.found.Found.{Found}
use Rattle.markdown_items.specs.declared.found.Found.TheVariants as found
use Rattle.markdown_items.specs.declared.found.LineRange.{LineRange}

-- a special byte is ASCII
pub special_ascii : (dashes : Bool) (byte : ℕ) → is_special dashes byte ≡ true → byte < 128
special_ascii dashes byte h = grind (arith, nat_tests)

-- after a special byte the text may be cut
pub past_special : (text : List ℕ) (line : LineRange) (at : ℕ) → IsUtf8 text → IsAtSpecial text line at
    → IsCharBoundary text (at + 1)
past_special text line at u here =
    let within = here.end in
    let more = here.more in
    IsCharBoundary-after_ascii text at u (omega (arith, within.0, more)) (special_ascii _ _ here.special)

-- and after a run of one
pub past_run : (text : List ℕ) (line : LineRange) (at stop : ℕ) → IsUtf8 text → IsAtSpecial text line at
    → IsMaximalRun text at line.end stop → IsCharBoundary text stop
past_run text line at stop u here whole =
    let run = whole.run in
    let more = run.more in
    let within = run.within in
    let same : get_or text (stop - 1) 0 ≡ get_or text at 0 =
    run.same (stop - 1) (omega (arith, more)) (omega (arith, more)) in
    let ascii : get_or text (stop - 1) 0 < 128 = rw same (special_ascii _ _ here.special) in
    let cut = IsCharBoundary-after_ascii text (stop - 1) u (omega (arith, more, within)) ascii in
    let n : (stop - 1) + 1 ≡ stop = omega (arith, more) in
    rw n at cut

-- after three dots the text may be cut
pub past_dots : (text : List ℕ) (line : LineRange) (at : ℕ) → IsUtf8 text → IsAtSpecial text line at
    → begins_with (codes "...") (slice_range text at line.end) ≡ true
    → (at + 3 ≤ line.end) × IsCharBoundary text (at + 3)
past_dots text line at u here dots =
    let end = here.end in
    let more = here.more in
    let few = begins_with-fits (codes "...") (slice_range text at line.end) dots in
    let size = part_length text at line.end end.0 in
    let last : get_or text (at + 2) 0 ≡ 46 =
    sym (byte_of_part text at line.end 2 (omega (arith, few, size)))
    ∙ begins_with-reads (codes "...") (slice_range text at line.end) 2 dots (omega arith) in
    let cut = IsCharBoundary-after_ascii text (at + 2) u (omega (arith, few, size, end.0)) (omega (arith, last)) in
    let n : (at + 2) + 1 ≡ at + 3 = omega arith in
    (omega (arith, few, size), rw n at cut)

-- an entity has a byte
entity_some : (part : List ℕ) (count : ℕ) → StandsBetween 38 59 part count → 0 < count
entity_some part zero between = let e : 38 ≡ 59 = sym between.0 ∙ between.1 in omega (arith, e)
entity_some part (suc count) between = omega arith

-- after an entity the text may be cut
pub past_entity : (text : List ℕ) (at end count : ℕ) → IsUtf8 text → at < end → end ≤ length text
    → StandsBetween 38 59 (slice_range text at end) count → count ≤ end - at
    → (0 < count) × IsCharBoundary text (at + count)
past_entity text at end count u more within between le =
    let some = entity_some _ count between in
    let last : get_or text (at + (count - 1)) 0 ≡ 59 =
    sym (byte_of_part text at end (count - 1) (omega (arith, some, le))) ∙ between.1 in
    let cut = IsCharBoundary-after_ascii text (at + (count - 1)) u (omega (arith, some, le, more, within))
    (omega (arith, last)) in
    let n : (at + (count - 1)) + 1 ≡ at + count = omega (arith, some) in
    (some, rw n at cut)

-- an entity that was read fits the line's content
pub entity_fits : (names : EntityNames) (text : List ℕ) (line : LineRange) (at count : ℕ) (characters : List ℕ)
    → IsUtf8 text → IsAtSpecial text line at → EntityBeginsAndEnds names (slice_range text at line.end)
    → Some (count, characters) ≡ option_map in_utf8 (entity names (slice_range text at line.end))
    → count ≤ length (slice_range text at line.end)
    → LiesFurther line.end at (at + count) × IsCharBoundary text (at + count)
entity_fits names text line at count characters u here law value le =
    let part = slice_range text at line.end in
    let end = here.end in
    let more = here.more in
    let between = stands (entity names part) law value in
    let few : count ≤ line.end - at = omega (arith, le, part_length text at line.end end.0) in
    let past = past_entity text at line.end count u more end.0 between few in
    let some = past.0 in
    (record { past = omega (arith, some); within = omega (arith, few, more) }, past.1)
  where
    stands : (found : Option (ℕ × List ℕ)) → IfSome found (λ r. StandsBetween 38 59 (slice_range text at line.end) r.0)
        → Some (count, characters) ≡ option_map in_utf8 found
        → StandsBetween 38 59 (slice_range text at line.end) count
    stands None law e = cc
    stands (Some r) law e =
        let same : count ≡ r.0 = ap (λ (x : ℕ × List ℕ). x.0) (same_Some (count, characters) (in_utf8 r) e) in
        rw same law

-- what is read is the entity there, or text
pub entity_found_is : (at : ℕ) (found : Option (ℕ × List ℕ)) (count : ℕ) (characters : List ℕ)
    → Some (count, characters) ≡ option_map in_utf8 found
    → view.Entity (at + count) characters ≡ entity_found at found
entity_found_is at None count characters e = cc
entity_found_is at (Some r) count characters e =
    let same = same_Some (count, characters) (in_utf8 r) e in
    ap (λ (x : ℕ × List ℕ). view.Entity (at + x.0) x.1) same

pub entity_none_is : (at : ℕ) (found : Option (ℕ × List ℕ)) → None ≡ option_map in_utf8 found
    → view.Text (at + 1) ≡ entity_found at found
entity_none_is at None e = refl
entity_none_is at (Some r) e = cc

other_eq : (a b : ℕ) → a ≢ b → (a == b) ≡ false
other_eq a b e = grind (arith, nat_tests)

-- a whole run stops where the run of its byte does
pub run_end_is : (text : List ℕ) (at end stop : ℕ) → end ≤ length text → IsMaximalRun text at end stop
    → stop ≡ run_end text at end
run_end_is text at end stop le whole =
    let run = whole.run in
    let more = run.more in
    let within = whole.within in
    let part = slice_range text at end in
    let size = part_length text at end le in
    let first : (k : ℕ) → k < stop - at → (get_or part k 0 == get_or text at 0) ≡ true = λ k h.
    eq-eqb _ _ (byte_of_part text at end k (omega (arith, h, within))
    ∙ run.same (at + k) (omega arith) (omega (arith, h))) in
    let n : at + (stop - at) ≡ stop = omega (arith, more) in
    let same : stop < end → get_or part (stop - at) 0 ≡ get_or text stop 0 = λ h.
    byte_of_part text at end (stop - at) (omega (arith, h, more)) ∙ ap (λ k. get_or text k 0) n in
    let last : stop - at < length part → (get_or part (stop - at) 0 == get_or text at 0) ≡ false = λ h.
    let less : stop < end = omega (arith, h, size, more) in
    other_eq _ _ (λ e. whole.whole less (sym (same less) ∙ e)) in
    let count : prefix_len (λ b. b == slice_index text at) part ≡ stop - at =
    prefix_len_is (λ b. b == slice_index text at) part (stop - at) 0 (omega (arith, size, within)) first last in
    omega (arith, count, more)

-- the offset at which to continue is further on in the line's content
pub goes_on : (text : List ℕ) (end at : ℕ) (found : Found) → at < end → FoundFits text end at found
    → LiesFurther end at (next_after at found)
goes_on text end at (found.Text next) more fits = fits
goes_on text end at found.Escape more fits = record { past = omega arith; within = omega (arith, fits.0) }
goes_on text end at (found.Mark body) more fits = record { past = omega arith; within = omega (arith, more) }
goes_on text end at found.Image more fits = record { past = omega arith; within = omega (arith, fits.0) }
goes_on text end at (found.Backticks stop) more fits = fits.0
goes_on text end at (found.EscapedBackticks stop) more fits =
    let past = fits.0 in
    record { past = omega (arith, past.past); within = past.within }
goes_on text end at (found.Run stop flags) more fits = fits.0
goes_on text end at (found.Entity stop characters) more fits = fits.0
goes_on text end at (found.Dashes stop) more fits = fits.0
goes_on text end at found.Ellipsis more fits = record { past = omega arith; within = fits.0 }
