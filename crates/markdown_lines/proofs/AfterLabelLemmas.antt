-- What follows the label of a definition.
use Rattle.std.proofs.Common.{◌≡◌, ℕ, zero, suc, ◌+◌, ◌-◌, ◌<◌, ◌≤◌, List, [], ◌∷◌, ◌++◌, Bool, true, false, ◌==◌}
use Rattle.std.proofs.Common.{Option, Some, None, length, drop, refl, sym, ap, ◌∙◌, arith, slice_range, subst, get_or}
use Rattle.std.proofs.Common.{codes, ⊎_elim, Bor, eqb, not}
use Rattle.std.proofs.lemmas.Bool.{cases_lt, true≢false}
use Rattle.std.proofs.lemmas.Bool.Decides.{nat_tests}
use Rattle.std.proofs.lemmas.List.{drop-drop, drop_all, drop_at}
use Rattle.std.specs.List.{slice_get}
use Rattle.std.specs.Option.{option_eq, option_map}
use Rattle.std.specs.Prelude.{option_and_then, if◌then◌else◌}
use Rattle.std.specs.Str.{IsCharBoundary, IsUtf8}
use Rattle.markdown_base.proofs.ByteListLemmas.{part_length}
use Rattle.markdown_scan.specs.Beginnings.{begins_with}
use Rattle.markdown_scan.specs.Destination.{destination}
use Rattle.markdown_scan.specs.Unescape.{unescaped}
use Rattle.markdown_scan.specs.declared.entity.EntityNames.{EntityNames}
use Rattle.markdown_lines.specs.DefinitionRules as rules
use Rattle.markdown_lines.specs.DefinitionRules.{separation, tail_of, with_destination, with_label, with_tail}
use Rattle.markdown_lines.specs.HeldLines.{AreHeldLines, held_text}
use Rattle.markdown_lines.specs.HeldPlaces.{IsPast, IsPastColon, IsSpotAfter, count_before, count_to, rest_at}
use Rattle.markdown_lines.specs.HeldPlaces.{some_destination}
use Rattle.markdown_lines.specs.HeldTitles.{defined_by, tail_found, title_between}
use Rattle.markdown_lines.specs.declared.definition.Spot.{Spot}
use Rattle.markdown_lines.specs.declared.definition.Tail.{Tail}
use Rattle.markdown_lines.specs.declared.held_line.HeldLine.{HeldLine}
use Rattle.markdown_lines.proofs.HeldBetweenLemmas.{ending_byte}
use Rattle.markdown_lines.proofs.TitleLemmas.{byte_there}
use Rattle.markdown_lines.specs.Lines.{is_line_ending}
use Rattle.markdown_lines.proofs.HeldLinesLemmas.{bounds_of, count_more, count_next, line_of, rest_is}
use Rattle.markdown_lines.proofs.LinesLemmas.{past_ascii}
use Rattle.markdown_lines.proofs.PositionsLemmas.{part_next}
use Rattle.markdown_lines.proofs.TitleTailLemmas.{rest_past}

-- so many bytes of the lines' text are those of the first lines, and some of the next line
pub record Counts (text : List ℕ) (lines : List HeldLine) (count number left : ℕ) : Type 0 where
  pub rest : drop count (held_text text lines) ≡ drop left (held_text text (drop number lines))
  pub sum : (line : HeldLine) → slice_get lines number ≡ Some line
      → count_before lines number line.start + left ≡ count

pub counts_none : (text : List ℕ) (lines : List HeldLine) (count : ℕ) → Counts text lines count 0 count
counts_none text lines count = record { rest = refl; sum = start lines }
  where
    start : (lines : List HeldLine) (line : HeldLine) → slice_get lines 0 ≡ Some line
        → count_before lines 0 line.start + count ≡ count
    start [] line there = cc
    start (first ∷ lines) line there =
        let same : first ≡ line = cc in omega (arith, ap (λ (l : HeldLine). l.start) same)

split_at : (lines : List HeldLine) (number : ℕ) (line : HeldLine) → slice_get lines number ≡ Some line
    → drop number lines ≡ line ∷ drop (suc number) lines
split_at [] number line there = cc
split_at (first ∷ lines) zero line there =
    let same : first ≡ line = cc in ap (λ (l : HeldLine). l ∷ lines) same
split_at (first ∷ lines) (suc number) line there = split_at lines number line there

pub counts_more : (text : List ℕ) (lines : List HeldLine) (count number left size : ℕ) (line : HeldLine)
    → slice_get lines number ≡ Some line → size ≡ line.next - line.start → size ≤ left
    → AreHeldLines text lines → Counts text lines count number left
    → Counts text lines count (number + 1) (left - size)
counts_more text lines count number left size line there is less held counts =
    let known = line_of text 0 lines number line held there in
    let bounds = bounds_of text line known.is in
    let part = part_length text line.start line.next bounds.within in
    let next : suc number ≡ number + 1 = omega arith in
    let all : left ≡ size + (left - size) = omega (arith, less) in
    let total : line.next ≡ line.start + (line.next - line.start) = omega (arith, bounds.stop, bounds.next) in
    subst (λ n. Counts text lines count n (left - size)) next
    (record {
      rest = counts.rest
          ∙ (ap (λ (ls : List HeldLine). drop left (held_text text ls)) (split_at lines number line there)
          ∙ (ap (λ n. drop n (slice_range text line.start line.next ++ held_text text (drop (suc number) lines))) all
          ∙ (sym (drop-drop (left - size) size
          (slice_range text line.start line.next ++ held_text text (drop (suc number) lines)))
          ∙ ap (drop (left - size)) (drop_at (slice_range text line.start line.next)
          (held_text text (drop (suc number) lines)) size (part ∙ sym is)))));
      sum = λ (after : HeldLine) (further : slice_get lines (suc number) ≡ Some after).
          let begins = count_next text 0 lines number line after there further in
          let more = ap (count_before lines number) total
          ∙ count_more lines number line.start (line.next - line.start) line there (omega arith) in
          let so_far = counts.sum line there in
          omega (arith, begins, more, so_far, less, is);
    })

pub counts_here : (text : List ℕ) (lines : List HeldLine) (count number left at : ℕ) (line : HeldLine)
    → slice_get lines number ≡ Some line → left < line.next - line.start → at ≡ line.start + left
    → Counts text lines count number left → IsSpotAfter lines count (record { line = number; at = at })
counts_here text lines count number left at line there less is counts =
    let more = count_more lines number line.start left line there (omega arith) in
    let so_far = counts.sum line there in
    record {
      line = line;
      there = there;
      low = omega (arith, is);
      high = omega (arith, is, less);
      count = ap (count_before lines number) is ∙ (more ∙ so_far);
    }

pub counts_all : (text : List ℕ) (lines : List HeldLine) (count number left : ℕ) → length lines ≤ number
    → Counts text lines count number left → drop count (held_text text lines) ≡ []
counts_all text lines count number left past counts =
    counts.rest
    ∙ (ap (λ (ls : List HeldLine). drop left (held_text text ls)) (drop_all number lines past) ∙ none left)
  where
    none : (n : ℕ) → drop {A = ℕ} n [] ≡ []
    none zero = refl
    none (suc n) = refl

-- the byte there
byte_after : (text : List ℕ) (lines : List HeldLine) (count : ℕ) (spot : Spot) → AreHeldLines text lines
    → IsSpotAfter lines count spot
    → (more : List ℕ) × ((drop count (held_text text lines) ≡ get_or text spot.at 0 ∷ more) × (spot.at < length text))
byte_after text lines count spot held is =
    let known = line_of text 0 lines spot.line is.line held is.there in
    let bounds = bounds_of text is.line known.is in
    let rest = rest_is text 0 lines spot.line spot.at is.line held is.there is.low (omega (arith, is.high)) in
    let within : spot.at < length text = omega (arith, is.high, bounds.within) in
    let more = slice_range text (spot.at + 1) is.line.next ++ held_text text (drop (suc spot.line) lines) in (
      more,
      (
        ap (λ n. drop n (held_text text lines)) (sym is.count)
            ∙ (rest ∙ ap (λ (xs : List ℕ). xs ++ held_text text (drop (suc spot.line) lines))
            (part_next text spot.at is.line.next is.high within)),
        within,
      ),
    )

colon_test : (b : ℕ) (more : List ℕ) → begins_with (codes ":") (b ∷ more) ≡ (b == 58)
colon_test b more = decided (b == 58) refl
  where
    decided : (test : Bool) → (b == 58) ≡ test → begins_with (codes ":") (b ∷ more) ≡ (b == 58)
    decided true is =
        let same : b ≡ 58 = grind (arith, nat_tests) in
        subst (λ n. begins_with (codes ":") (n ∷ more) ≡ (n == 58)) (sym same) refl
    decided false is =
        let other : (58 == b) ≡ false = grind (arith, nat_tests) in rw other (sym is)

-- what a test of a byte says
pub byte_unlike : (found : Option ℕ) → not (option_eq eqb found (Some 58)) ≡ true → found ≡ Some 58 → ⊥
byte_unlike found is same =
    let other : not (option_eq eqb found (Some 58)) ≡ false =
    ap (λ (o : Option ℕ). not (option_eq eqb o (Some 58))) same in
    true≢false (sym is ∙ other)

pub byte_like : (found : Option ℕ) → not (option_eq eqb found (Some 58)) ≡ false → found ≡ Some 58
byte_like None is = absurd (true≢false is)
byte_like (Some b) is = decided (eqb b 58) refl
  where
    decided : (test : Bool) → eqb b 58 ≡ test → Some b ≡ Some 58
    decided true e = let same : b ≡ 58 = grind (arith, nat_tests) in ap Some same
    decided false e =
        let other : not (option_eq eqb (Some b) (Some 58)) ≡ true = ap not e in
        absurd (true≢false (sym other ∙ is))

-- the byte there is no colon, or it is one
pub other_byte : (text : List ℕ) (lines : List HeldLine) (count : ℕ) (spot : Spot)
    → (slice_get text spot.at ≡ Some 58 → ⊥) → IsSpotAfter lines count spot → AreHeldLines text lines
    → begins_with (codes ":") (drop count (held_text text lines)) ≡ false
other_byte text lines count spot other is held =
    let found = byte_after text lines count spot held is in
    ap (begins_with (codes ":")) found.1.0
    ∙ (colon_test (get_or text spot.at 0) found.0 ∙ no_colon (get_or text spot.at 0 == 58) refl)
  where
    no_colon : (test : Bool) → (get_or text spot.at 0 == 58) ≡ test → test ≡ false
    no_colon false e = refl
    no_colon true e =
        let found = byte_after text lines count spot held is in
        let same : get_or text spot.at 0 ≡ 58 = grind (arith, nat_tests) in
        absurd (other (byte_there text spot.at found.1.1 ∙ ap Some same))

pub colon_there : (text : List ℕ) (lines : List HeldLine) (count at : ℕ) (spot : Spot) → IsUtf8 text
    → slice_get text spot.at ≡ Some 58 → at ≡ spot.at + 1 → IsSpotAfter lines count spot → AreHeldLines text lines
    → IsPastColon text lines count (record { line = spot.line; at = at })
colon_there text lines count at spot utf8 colon on is held =
    let found = byte_after text lines count spot held is in
    let known = line_of text 0 lines spot.line is.line held is.there in
    let bounds = bounds_of text is.line known.is in
    let there = byte_there text spot.at found.1.1 in
    let byte : get_or text spot.at 0 ≡ 58 = some_same (sym there ∙ colon) in
    let inside : spot.at < is.line.stop =
    ⊎_elim (λ (less : spot.at < is.line.stop). less)
    (λ (past : is.line.stop ≤ spot.at). absurd (in_ending past))
    (cases_lt spot.at is.line.stop) in
    let further = past_ascii text spot.at utf8 found.1.1 (omega (arith, byte)) in
    record {
      colon = ap (begins_with (codes ":")) found.1.0
          ∙ (colon_test (get_or text spot.at 0) found.0 ∙ ap (λ n. n == 58) byte);
      place = record {
        held = held;
        line = is.line;
        there = is.there;
        low = omega (arith, on, is.low);
        high = omega (arith, on, inside);
        boundary = subst (λ n. IsCharBoundary text n) (sym on) further;
      };
      count = ap (count_before lines spot.line) on
          ∙ (count_more lines spot.line spot.at 1 is.line is.there is.low ∙ ap (λ n. n + 1) is.count);
    }
  where
    some_same : {a b : ℕ} → Some a ≡ Some b → a ≡ b
    some_same e = cc

    in_ending : is.line.stop ≤ spot.at → ⊥
    in_ending past =
        let found = byte_after text lines count spot held is in
        let known = line_of text 0 lines spot.line is.line held is.there in
        let bounds = bounds_of text is.line known.is in
        let byte : get_or text spot.at 0 ≡ 58 = some_same (sym (byte_there text spot.at found.1.1) ∙ colon) in
        let ending = ending_byte text is.line known.is spot.at past is.high in
        let other : is_line_ending 58 ≡ false = refl in
        true≢false (sym ending ∙ (ap is_line_ending byte ∙ other))

pub no_colon_left : (bytes : List ℕ) → bytes ≡ [] → begins_with (codes ":") bytes ≡ false
no_colon_left bytes is = ap (begins_with (codes ":")) is

-- the part of a definition after its label, where it is not there
with_destination_is : (names : EntityNames) (label : List ℕ) (before : ℕ) (bytes : List ℕ)
    → with_destination names label before bytes
    ≡ option_and_then (λ found. with_tail names label (before + found.0) found.1 (drop found.0 bytes))
    (some_destination bytes)
with_destination_is names label before bytes = by (destination 32 bytes)
  where
    chosen : (n : ℕ) (target : List ℕ) (test : Bool) → (n == 0) ≡ test
        → (if n == 0 then None else with_tail names label (before + n) target (drop n bytes))
        ≡ option_and_then (λ (f : ℕ × List ℕ). with_tail names label (before + f.0) f.1 (drop f.0 bytes))
        (if n == 0 then None else Some (n, target))
    chosen n target true e = rw e refl
    chosen n target false e = rw e refl

    by : (found : Option (ℕ × List ℕ))
        → option_and_then (λ f. if f.0 == 0 then None
        else with_tail names label (before + f.0) f.1 (drop f.0 bytes)) found
        ≡ option_and_then (λ f. with_tail names label (before + f.0) f.1 (drop f.0 bytes))
        (option_and_then (λ f. if f.0 == 0 then None else Some f) found)
    by None = refl
    by (Some f) = chosen f.0 f.1 (f.0 == 0) refl

pub label_alone : (names : EntityNames) (bytes : List ℕ) (length : ℕ) (label : List ℕ)
    → begins_with (codes ":") (drop (length + 1) bytes) ≡ false → None ≡ with_label names bytes (length, label)
label_alone names bytes length label is = rw is refl

-- what follows a label and a colon
pub after_colon : (text : List ℕ) (lines : List HeldLine) (names : EntityNames) (length : ℕ) (label : List ℕ)
    (after : Spot) → IsPastColon text lines (length + 1) after
    → with_label names (held_text text lines) (length, label)
    ≡ with_destination names label (length + 1 + (1 + separation (rest_at text lines after)))
    (drop (separation (rest_at text lines after)) (rest_at text lines after))
after_colon text lines names length label after is =
    let rest = drop (length + 1) (held_text text lines) in
    let left : drop 1 rest ≡ rest_at text lines after =
    drop-drop 1 (length + 1) (held_text text lines) ∙ ap (λ n. drop n (held_text text lines)) (sym is.count) in
    let whole : (sep : ℕ) → drop (1 + sep) rest ≡ drop sep (drop 1 rest) = λ (sep : ℕ). sym (drop-drop sep 1 rest) in
    rw is.colon
    (ap (with_destination names label (length + 1 + (1 + separation (drop 1 rest)))) (whole (separation (drop 1 rest)))
    ∙ ap (λ (xs : List ℕ). with_destination names label (length + 1 + (1 + separation xs)) (drop (separation xs) xs))
    left)

pub nothing_after : (text : List ℕ) (lines : List HeldLine) (names : EntityNames) (length : ℕ) (label : List ℕ)
    (after : Spot) → IsPastColon text lines (length + 1) after
    → drop (separation (rest_at text lines after)) (rest_at text lines after) ≡ []
    → None ≡ with_label names (held_text text lines) (length, label)
nothing_after text lines names length label after is none =
    sym (after_colon text lines names length label after is
    ∙ ap (with_destination names label (length + 1 + (1 + separation (rest_at text lines after)))) none)

-- the bytes of a definition up to its destination
pub at_start : (text : List ℕ) (lines : List HeldLine) (names : EntityNames) (length : ℕ) (label : List ℕ)
    (after start : Spot) → IsPastColon text lines (length + 1) after
    → IsPast text lines after (separation (rest_at text lines after)) start
    → with_label names (held_text text lines) (length, label)
    ≡ option_and_then (λ found. with_tail names label (count_to lines start + found.0) found.1
    (drop found.0 (rest_at text lines start)))
    (some_destination (rest_at text lines start))
at_start text lines names length label after start is past =
    let sep = separation (rest_at text lines after) in
    let left = rest_past text lines after start sep past.count in
    let count : length + 1 + (1 + sep) ≡ count_to lines start = omega (arith, is.count, past.count) in
    after_colon text lines names length label after is
    ∙ (ap (with_destination names label (length + 1 + (1 + sep))) (sym left)
    ∙ (ap (λ n. with_destination names label n (rest_at text lines start)) count
    ∙ with_destination_is names label (count_to lines start) (rest_at text lines start)))

pub no_target : (text : List ℕ) (lines : List HeldLine) (names : EntityNames) (length : ℕ) (label : List ℕ)
    (after start : Spot) → IsPastColon text lines (length + 1) after
    → IsPast text lines after (separation (rest_at text lines after)) start
    → None ≡ some_destination (rest_at text lines start)
    → None ≡ with_label names (held_text text lines) (length, label)
no_target text lines names length label after start is past none =
    sym (at_start text lines names length label after start is past
    ∙ ap (option_and_then (λ (found : ℕ × List ℕ). with_tail names label (count_to lines start + found.0) found.1
    (drop found.0 (rest_at text lines start)))) (sym none))

pub target_found : (text : List ℕ) (lines : List HeldLine) (names : EntityNames) (length : ℕ) (label target : List ℕ)
    (after start end : Spot) → IsPastColon text lines (length + 1) after
    → IsPast text lines after (separation (rest_at text lines after)) start
    → Some (count_to lines end - count_to lines start, target) ≡ some_destination (rest_at text lines start)
    → count_to lines start ≤ count_to lines end
    → with_label names (held_text text lines) (length, label)
    ≡ with_tail names label (count_to lines end) target (rest_at text lines end)
target_found text lines names length label target after start end is past found order =
    let size = count_to lines end - count_to lines start in
    let total : count_to lines start + size ≡ count_to lines end = omega (arith, order) in
    let left = rest_past text lines start end size (omega (arith, order)) in
    at_start text lines names length label after start is past
    ∙ (ap (option_and_then (λ (f : ℕ × List ℕ). with_tail names label (count_to lines start + f.0) f.1
    (drop f.0 (rest_at text lines start)))) (sym found)
    ∙ (ap (λ n. with_tail names label n target (drop size (rest_at text lines start))) total
    ∙ ap (with_tail names label (count_to lines end) target) (sym left)))

pub no_tail : (text : List ℕ) (lines : List HeldLine) (names : EntityNames) (label target : List ℕ) (end : Spot)
    → None ≡ tail_of (rest_at text lines end)
    → None ≡ with_tail names label (count_to lines end) target (rest_at text lines end)
no_tail text lines names label target end none =
    ap (option_map (λ (tail : rules.Tail). record {
      label = label;
      destination = unescaped names false target;
      title = option_map (unescaped names false) tail.title;
      length = count_to lines end + tail.length;
    })) none

titled_twice : (text : List ℕ) (lines : List HeldLine) (names : EntityNames) (end : Spot) (found : Option Spot)
    → option_map (unescaped names false) (option_map (λ opening. title_between text lines opening end) found)
    ≡ option_map (λ opening. unescaped names false (title_between text lines opening end)) found
titled_twice text lines names end None = refl
titled_twice text lines names end (Some opening) = refl

pub tail_there : (text : List ℕ) (lines : List HeldLine) (names : EntityNames) (label : List ℕ) (target : Bor (List ℕ))
    (end : Spot) (tail : Tail) → Some (tail_found text lines end tail) ≡ tail_of (rest_at text lines end)
    → count_to lines end ≤ count_to lines tail.end
    → Some (defined_by text lines names label (target, tail))
    ≡ with_tail names label (count_to lines end) target.now (rest_at text lines end)
tail_there text lines names label target end tail found order =
    let total : count_to lines tail.end ≡ count_to lines end + (count_to lines tail.end - count_to lines end) =
    omega (arith, order) in
    let title = titled_twice text lines names tail.end tail.title in
    ap (λ (n : ℕ). Some (record {
      label = label;
      destination = unescaped names false target.now;
      title = option_map (λ opening. unescaped names false (title_between text lines opening tail.end)) tail.title;
      length = n;
    })) total
    ∙ (ap (λ (t : Option (List ℕ)). Some (record {
      label = label;
      destination = unescaped names false target.now;
      title = t;
      length = count_to lines end + (count_to lines tail.end - count_to lines end);
    })) (sym title)
    ∙ ap (option_map (λ (t : rules.Tail). record {
      label = label;
      destination = unescaped names false target.now;
      title = option_map (unescaped names false) t.title;
      length = count_to lines end + t.length;
    })) found)
