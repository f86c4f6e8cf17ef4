-- What follows a destination: a title, or nothing in its line.
use Rattle.std.proofs.Common.{◌≡◌, ℕ, ◌+◌, ◌-◌, List, [], Bool, true, false, ◌==◌, Some, None, drop, take, refl, sym}
use Rattle.std.proofs.Common.{ap, ◌∙◌, arith, ◌≢◌}
use Rattle.std.proofs.lemmas.Bool.Decides.{nat_tests}
use Rattle.std.proofs.lemmas.List.{drop-drop}
use Rattle.std.specs.Prelude.{option_and_then, if◌then◌else◌}
use Rattle.markdown_lines.specs.DefinitionRules.{ends_its_line, separation, title_tail, titled}
use Rattle.markdown_lines.specs.HeldLines.{held_text}
use Rattle.markdown_lines.specs.HeldPlaces.{IsPast, count_to, rest_at}
use Rattle.markdown_lines.specs.HeldTitles.{IsTail, IsTitle, tail_found, title_size}
use Rattle.markdown_lines.specs.declared.definition.Spot.{Spot}
use Rattle.markdown_lines.specs.declared.definition.Tail.{Tail}
use Rattle.markdown_lines.specs.declared.held_line.HeldLine.{HeldLine}

-- what is left after so many bytes
pub rest_past : (text : List ℕ) (lines : List HeldLine) (spot after : Spot) (bytes : ℕ)
    → count_to lines after ≡ count_to lines spot + bytes
    → rest_at text lines after ≡ drop bytes (rest_at text lines spot)
rest_past text lines spot after bytes count =
    ap (λ n. drop n (held_text text lines)) count
    ∙ sym (drop-drop bytes (count_to lines spot) (held_text text lines))

-- where only white space is left
pub tail_none_left : (bytes : List ℕ) → drop (separation bytes) bytes ≡ [] → None ≡ title_tail bytes
tail_none_left bytes none = decided (separation bytes == 0) refl
  where
    decided : (test : Bool) → (separation bytes == 0) ≡ test → None ≡ title_tail bytes
    decided true is = rw is refl
    decided false is = rw is (ap (λ (xs : List ℕ). option_and_then (titled (separation bytes) xs) (title_size xs))
        (sym none))

-- where no white space separates it
pub tail_unseparated : (bytes : List ℕ) → (separation bytes == 0) ≡ true → None ≡ title_tail bytes
tail_unseparated bytes is = rw is refl

tail_is : (bytes rest : List ℕ) → (separation bytes == 0) ≡ false → drop (separation bytes) bytes ≡ rest
    → title_tail bytes ≡ option_and_then (titled (separation bytes) rest) (title_size rest)
tail_is bytes rest is left =
    rw is (ap (λ (xs : List ℕ). option_and_then (titled (separation bytes) xs) (title_size xs)) left)

-- where no title comes
pub tail_untitled : (text : List ℕ) (lines : List HeldLine) (after title : Spot)
    → IsPast text lines after (separation (rest_at text lines after)) title
    → (separation (rest_at text lines after) == 0) ≡ false
    → title_size (rest_at text lines title) ≡ None → None ≡ title_tail (rest_at text lines after)
tail_untitled text lines after title past is none =
    let rest = rest_past text lines after title (separation (rest_at text lines after)) past.count in
    sym (tail_is (rest_at text lines after) (rest_at text lines title) is (sym rest)
    ∙ ap (option_and_then (titled (separation (rest_at text lines after)) (rest_at text lines title))) none)

titled_is : (text : List ℕ) (lines : List HeldLine) (after title end : Spot) (over : Bool)
    → IsPast text lines after (separation (rest_at text lines after)) title
    → (separation (rest_at text lines after) == 0) ≡ false
    → (found : IsTitle text lines title end)
    → over ≡ ends_its_line (rest_at text lines end)
    → title_tail (rest_at text lines after)
    ≡ (if over then Some (record {
      length = separation (rest_at text lines after) + found.size + 2;
      title = Some (take found.size (drop 1 (rest_at text lines title)));
    }) else None)
titled_is text lines after title end over past is found ends =
    let before = separation (rest_at text lines after) in
    let rest = rest_past text lines after title before past.count in
    let left = rest_past text lines title end (found.size + 2) (omega (arith, found.count)) in
    let test : ends_its_line (drop (found.size + 2) (rest_at text lines title)) ≡ over =
    ap ends_its_line (sym left) ∙ sym ends in
    tail_is (rest_at text lines after) (rest_at text lines title) is (sym rest)
    ∙ (ap (option_and_then (titled before (rest_at text lines title))) found.title
    ∙ ap (λ (t : Bool). if t then Some (record {
      length = before + found.size + 2;
      title = Some (take found.size (drop 1 (rest_at text lines title)));
    }) else None) test)

-- where the line does not end after the title
pub tail_goes_on : (text : List ℕ) (lines : List HeldLine) (after title end : Spot)
    → IsPast text lines after (separation (rest_at text lines after)) title
    → (separation (rest_at text lines after) == 0) ≡ false → IsTitle text lines title end
    → false ≡ ends_its_line (rest_at text lines end) → None ≡ title_tail (rest_at text lines after)
tail_goes_on text lines after title end past is found ends =
    sym (titled_is text lines after title end false past is found ends)

-- and where it does
pub record TailIs (text : List ℕ) (lines : List HeldLine) (after : Spot) (found : Tail) : Type 0 where
  pub value : Some (tail_found text lines after found) ≡ title_tail (rest_at text lines after)
  pub ends : IsTail text lines after found

pub tail_titled : (text : List ℕ) (lines : List HeldLine) (after title end : Spot)
    → IsPast text lines after (separation (rest_at text lines after)) title
    → (separation (rest_at text lines after) == 0) ≡ false → IsTitle text lines title end
    → true ≡ ends_its_line (rest_at text lines end)
    → TailIs text lines after (record { end = end; title = Some title })
tail_titled text lines after title end past is found ends =
    let before = separation (rest_at text lines after) in
    let size : count_to lines end - count_to lines after ≡ before + found.size + 2 =
    omega (arith, found.count, past.count) in
    let inner : count_to lines end - count_to lines title - 2 ≡ found.size = omega (arith, found.count) in
    record {
      value = sym (titled_is text lines after title end true past is found ends
          ∙ rw (size, inner) refl);
      ends = record { ends = found.ends; order = omega (arith, found.count, past.count); title = found };
    }

-- a title that was moved to is separated
pub apart : (at from before : ℕ) → at ≢ from → (at == from) ≡ (before == 0) → (before == 0) ≡ false
apart at from before other moved =
    let unlike : (at == from) ≡ false = grind (arith, nat_tests) in sym moved ∙ unlike
