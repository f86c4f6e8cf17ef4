-- A destination ends in its line.
use Rattle.std.proofs.Common.{◌≡◌, ℕ, suc, ◌+◌, ◌-◌, ◌<◌, ◌≤◌, List, [], ◌∷◌, ◌++◌, Bool, true, false, ◌==◌, Option}
use Rattle.std.proofs.Common.{Some, None, IfSome, length, drop, take, refl, sym, ap, ◌∙◌, arith, slice_index, ◌≢◌, ◌^◌}
use Rattle.std.proofs.Common.{slice_range, subst}
use Rattle.std.proofs.lemmas.Bool.Decides.{nat_tests}
use Rattle.std.proofs.lemmas.List.{drop-drop, take-append-drop, take-append-le}
use Rattle.std.specs.Str.{IsCharBoundary}
use Rattle.markdown_base.proofs.ByteListLemmas.{part_length}
use Rattle.markdown_lines.specs.HeldLines.{held_text}
use Rattle.markdown_lines.specs.HeldPlaces.{IsEnd, IsPlace, count_before, count_to, rest_at, some_destination}
use Rattle.markdown_lines.specs.declared.definition.Spot.{Spot}
use Rattle.markdown_lines.specs.declared.held_line.HeldLine.{HeldLine}
use Rattle.markdown_lines.proofs.HeldLinesLemmas.{after_line, count_more, line_left, place_line, place_rest}
use Rattle.std.specs.Prelude.{option_and_then, if◌then◌else◌}
use Rattle.std.specs.Option.{option_map}
use Rattle.markdown_scan.specs.AsciiKinds.{is_control_or_space}
use Rattle.markdown_scan.specs.Backslash.{is_bare}
use Rattle.markdown_scan.specs.Destination.{angle_length, bare_length, destination, end_of_bare, is_past_bare}
use Rattle.markdown_scan.specs.Destination.{is_refused, is_too_deep, open_after}
use Rattle.markdown_scan.specs.LineStart.{is_line_over}

-- a length that is found where a line ends, or not at all, and is not more than the bytes of the line
pub record EndsIn (found here : Option ℕ) (size : ℕ) : Type 0 where
  pub same : found ≡ here
  pub few : IfSome here (λ n. n ≤ size)

added : (found here : Option ℕ) (size : ℕ) → EndsIn found here size
    → EndsIn (option_map (λ n. 1 + n) found) (option_map (λ n. 1 + n) here) (suc size)
added found None size is = record { same = ap (option_map (λ n. 1 + n)) is.same; few = tt }
added found (Some n) size is =
    let few = is.few in record { same = ap (option_map (λ n. 1 + n)) is.same; few = omega (arith, few) }

no_angle : (escaped : Bool) (after : List ℕ) → is_line_over after ≡ true → angle_length escaped after ≡ None
no_angle escaped [] over = refl
no_angle true (b ∷ after) over =
    let refused : is_refused true b ≡ true = over in rw refused refl
no_angle false (b ∷ after) over =
    let other : (b == 62) ≡ false = grind (arith, nat_tests) in
    let refused : is_refused false b ≡ true = grind (arith, nat_tests) in
    rw (other, refused) refl

angle_ends : (escaped : Bool) (content after : List ℕ) → is_line_over after ≡ true
    → EndsIn (angle_length escaped (content ++ after)) (angle_length escaped content) (length content)
angle_ends escaped [] after over = record { same = no_angle escaped after over; few = tt }
angle_ends escaped (b ∷ content) after over =
    decided (angle_ends (is_bare escaped b 92) content after over) (is_bare escaped b 62) (is_refused escaped b) refl
    refl
  where
    decided : EndsIn (angle_length (is_bare escaped b 92) (content ++ after))
        (angle_length (is_bare escaped b 92) content) (length content)
        → (closes refused : Bool) → is_bare escaped b 62 ≡ closes → is_refused escaped b ≡ refused
        → EndsIn (angle_length escaped (b ∷ content ++ after)) (angle_length escaped (b ∷ content))
        (suc (length content))
    decided inside true refused p q = record { same = rw p refl; few = rw p (omega arith) }
    decided inside false true p q = record { same = rw (p, q) refl; few = rw (p, q) tt }
    decided inside false false p q = rw (p, q) (added _ _ _ inside)

bare_over : (escaped : Bool) (opened : ℕ) (after : List ℕ) → is_line_over after ≡ true
    → bare_length 32 escaped opened after ≡ end_of_bare opened
bare_over escaped opened [] over = refl
bare_over escaped opened (b ∷ after) over =
    let control : is_control_or_space b ≡ true = grind (arith, nat_tests) in
    rw control refl

end_few : (opened size : ℕ) → IfSome (end_of_bare opened) (λ n. n ≤ size)
end_few opened size = decided (opened == 0) refl
  where
    decided : (test : Bool) → (opened == 0) ≡ test → IfSome (end_of_bare opened) (λ n. n ≤ size)
    decided true p = rw p (omega arith)
    decided false p = rw p tt

bare_ends : (escaped : Bool) (opened : ℕ) (content after : List ℕ) → is_line_over after ≡ true
    → EndsIn (bare_length 32 escaped opened (content ++ after)) (bare_length 32 escaped opened content)
    (length content)
bare_ends escaped opened [] after over =
    record { same = bare_over escaped opened after over; few = end_few opened 0 }
bare_ends escaped opened (b ∷ content) after over =
    decided (bare_ends (is_bare escaped b 92) (open_after escaped b opened) content after over)
    (is_past_bare escaped opened b) (is_too_deep 32 escaped opened b) refl refl
  where
    decided : EndsIn (bare_length 32 (is_bare escaped b 92) (open_after escaped b opened) (content ++ after))
        (bare_length 32 (is_bare escaped b 92) (open_after escaped b opened) content) (length content)
        → (past deep : Bool) → is_past_bare escaped opened b ≡ past → is_too_deep 32 escaped opened b ≡ deep
        → EndsIn (bare_length 32 escaped opened (b ∷ content ++ after)) (bare_length 32 escaped opened (b ∷ content))
        (suc (length content))
    decided inside true deep p q =
        record { same = rw p refl; few = rw p (end_few opened (suc (length content))) }
    decided inside false true p q = record { same = rw (p, q) refl; few = rw (p, q) tt }
    decided inside false false p q = rw (p, q) (added _ _ _ inside)

-- the same for destinations
pub record EndsInLine (found here : Option (ℕ × List ℕ)) (size : ℕ) : Type 0 where
  pub same : found ≡ here
  pub few : IfSome here (λ f. f.0 ≤ size)

of_bare : (found here : Option ℕ) (content after : List ℕ) → EndsIn found here (length content)
    → EndsInLine (option_map (λ n. (n, take n (content ++ after))) found) (option_map (λ n. (n, take n content)) here)
    (length content)
of_bare found None content after is = record {
  same = ap (option_map (λ (n : ℕ). (n, take n (content ++ after)))) is.same;
  few = tt;
}
of_bare found (Some n) content after is = record {
  same = ap (option_map (λ (n : ℕ). (n, take n (content ++ after)))) is.same
      ∙ ap (λ (xs : List ℕ). Some (n, xs)) (take-append-le n content after is.few);
  few = is.few;
}

of_angle : (found here : Option ℕ) (content after : List ℕ) → EndsIn found here (length content)
    → IfSome here (λ n. n < length content)
    → EndsInLine (option_map (λ n. (n + 2, take n (content ++ after))) found)
    (option_map (λ n. (n + 2, take n content)) here) (suc (length content))
of_angle found None content after is less = record {
  same = ap (option_map (λ (n : ℕ). (n + 2, take n (content ++ after)))) is.same;
  few = tt;
}
of_angle found (Some n) content after is less = record {
  same = ap (option_map (λ (n : ℕ). (n + 2, take n (content ++ after)))) is.same
      ∙ ap (λ (xs : List ℕ). Some (n + 2, xs)) (take-append-le n content after is.few);
  few = omega (arith, less);
}

angle_less : (escaped : Bool) (content : List ℕ) → IfSome (angle_length escaped content) (λ n. n < length content)
angle_less escaped [] = tt
angle_less escaped (b ∷ content) =
    decided (angle_length (is_bare escaped b 92) content) (angle_less (is_bare escaped b 92) content)
    (is_bare escaped b 62) (is_refused escaped b) refl refl refl
  where
    more : (found : Option ℕ) → IfSome found (λ n. n < length content)
        → IfSome (option_map (λ n. 1 + n) found) (λ n. n < suc (length content))
    more None less = tt
    more (Some n) less = omega (arith, less)

    decided : (found : Option ℕ) → IfSome found (λ n. n < length content)
        → (closes refused : Bool) → is_bare escaped b 62 ≡ closes → is_refused escaped b ≡ refused
        → angle_length (is_bare escaped b 92) content ≡ found
        → IfSome (angle_length escaped (b ∷ content)) (λ n. n < suc (length content))
    decided found less true refused p q r = rw p (omega arith)
    decided found less false true p q r = rw (p, q) tt
    decided found less false false p q r = rw (p, q, r) (more found less)

pub destination_ends : (content after : List ℕ) → is_line_over after ≡ true
    → EndsInLine (destination 32 (content ++ after)) (destination 32 content) (length content)
destination_ends [] after over =
    let first : (slice_index after 0 == 60) ≡ false = no_mark after over in
    rw first (record {
      same = ap (option_map (λ (n : ℕ). (n, take n after))) (bare_over false 0 after over);
      few = omega arith;
    })
  where
    no_mark : (after : List ℕ) → is_line_over after ≡ true → (slice_index after 0 == 60) ≡ false
    no_mark [] over = refl
    no_mark (b ∷ after) over = grind (arith, nat_tests)
destination_ends (b ∷ content) after over = decided (b == 60) refl
  where
    decided : (test : Bool) → (b == 60) ≡ test
        → EndsInLine (destination 32 (b ∷ content ++ after)) (destination 32 (b ∷ content)) (suc (length content))
    decided true p =
        rw p (of_angle _ _ content after (angle_ends false content after over) (angle_less false content))
    decided false p =
        rw p (of_bare _ _ (b ∷ content) after (bare_ends false 0 (b ∷ content) after over))

-- what the text has from a place in a line on, and what the lines have
in_text : (text : List ℕ) (at stop : ℕ) → at ≤ stop → stop ≤ length text
    → drop at text ≡ slice_range text at stop ++ drop stop text
in_text text at stop low high =
    let place : at + (stop - at) ≡ stop = omega (arith, low) in
    sym (take-append-drop (stop - at) (drop at text))
    ∙ ap (λ (xs : List ℕ). slice_range text at stop ++ xs)
    (drop-drop (stop - at) at text ∙ ap (λ n. drop n text) place)

-- a destination found in the text is the one of the lines
pub record InText (text : List ℕ) (lines : List HeldLine) (start : Spot) (place : IsPlace text lines start)
    : Type 0 where
  pub same : destination 32 (rest_at text lines start) ≡ destination 32 (drop start.at text)
  pub few : IfSome (destination 32 (drop start.at text)) (λ f. f.0 ≤ place.line.stop - start.at)

pub in_line : (text : List ℕ) (lines : List HeldLine) (start : Spot) (place : IsPlace text lines start)
    → InText text lines start place
in_line text lines start place =
    let known = place_line text lines start place in
    let stop = place.line.stop in
    let content = slice_range text start.at stop in
    let after = after_line text place.line (drop (suc start.line) lines) known.is known.others in
    let there = destination_ends content
    (slice_range text stop place.line.next ++ held_text text (drop (suc start.line) lines)) after.over in
    let here = destination_ends content (drop stop text)
    (line_left text stop known.is.content.high known.is.content.stops) in
    let size = part_length text start.at stop known.is.content.high in
    let whole = in_text text start.at stop place.high known.is.content.high in
    let same : destination 32 (drop start.at text) ≡ destination 32 content =
    ap (destination 32) whole ∙ here.same in
    record {
      same = ap (destination 32) (place_rest text lines start place) ∙ (there.same ∙ sym same);
      few = subst (λ (f : Option (ℕ × List ℕ)). IfSome f (λ g. g.0 ≤ stop - start.at)) (sym same)
          (subst (λ n. IfSome (destination 32 content) (λ g. g.0 ≤ n)) size here.few);
    }

pub no_destination : (text : List ℕ) (lines : List HeldLine) (start : Spot)
    → None ≡ destination 32 (drop start.at text) → IsPlace text lines start
    → None ≡ some_destination (rest_at text lines start)
no_destination text lines start none place =
    let line = in_line text lines start place in
    ap (option_and_then (λ (found : ℕ × List ℕ). if found.0 == 0 then None else Some found))
    (none ∙ sym line.same)

pub empty_destination : (text : List ℕ) (lines : List HeldLine) (start : Spot) (size : ℕ) (bytes : List ℕ)
    → Some (size, bytes) ≡ destination 32 (drop start.at text) → size ≡ 0 → IsPlace text lines start
    → None ≡ some_destination (rest_at text lines start)
empty_destination text lines start size bytes found none place =
    let line = in_line text lines start place in
    let test : (size == 0) ≡ true = grind (arith, nat_tests) in
    sym (ap (option_and_then (λ (found : ℕ × List ℕ). if found.0 == 0 then None else Some found))
    (line.same ∙ sym found) ∙ rw test refl)

pub record DestinationIs (text : List ℕ) (lines : List HeldLine) (start : Spot) (bytes : List ℕ) (after : Spot)
    : Type 0 where
  pub value : Some (count_to lines after - count_to lines start, bytes) ≡ some_destination (rest_at text lines start)
  pub ends : IsEnd text lines after
  pub order : count_to lines start ≤ count_to lines after

pub destination_is : (text : List ℕ) (lines : List HeldLine) (start : Spot) (size at : ℕ) (bytes : List ℕ)
    → Some (size, bytes) ≡ destination 32 (drop start.at text) → size ≢ 0 → length text < 2 ^ 64
    → IsCharBoundary text (start.at + size) → (start.at + size < 2 ^ 64 → at ≡ start.at + size)
    → IsPlace text lines start
    → DestinationIs text lines start bytes (record { line = start.line; at = at })
destination_is text lines start size at bytes found some fits boundary on place =
    let known = place_line text lines start place in
    let line = in_line text lines start place in
    let few : size ≤ place.line.stop - start.at =
    subst (λ (f : Option (ℕ × List ℕ)). IfSome f (λ g. g.0 ≤ place.line.stop - start.at)) (sym found) line.few in
    let goes : at ≡ start.at + size = on (omega (arith, few, known.is.content.high, place.high, fits)) in
    let test : (size == 0) ≡ false = grind (arith, nat_tests) in
    let counted : count_before lines start.line at ≡ count_to lines start + size =
    ap (count_before lines start.line) goes
    ∙ count_more lines start.line start.at size place.line place.there place.low in
    let length_is : count_before lines start.line at - count_to lines start ≡ size = omega (arith, counted) in
    record {
      value = ap (λ (n : ℕ). Some (n, bytes)) length_is
          ∙ sym (ap (option_and_then (λ (found : ℕ × List ℕ). if found.0 == 0 then None else Some found))
          (line.same ∙ sym found) ∙ rw test refl);
      ends = record {
        place = record {
          held = place.held;
          line = place.line;
          there = place.there;
          low = omega (arith, place.low, goes);
          high = omega (arith, few, goes, place.high);
          boundary = subst (λ n. IsCharBoundary text n) (sym goes) boundary;
        };
        past = omega (arith, place.low, goes, some);
      };
      order = omega (arith, counted);
    }
