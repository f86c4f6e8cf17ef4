-- A thematic break, by what was counted in a line's content.
use Rattle.std.proofs.Common.{◌≡◌, ℕ, ◌<◌, ◌≤◌, List, [], ◌∷◌, Bool, true, false, Some, None, length, drop, refl, sym}
use Rattle.std.proofs.Common.{subst, ◌&&◌, arith}
use Rattle.std.specs.Prelude.{◌==◌, if◌then◌else◌}
use Rattle.std.specs.List.{count_by, list_all, prefix_len, slice_get}
use Rattle.std.proofs.lemmas.Bool.{eq-eqb, le-ltb, lt-leb, le-leb}
use Rattle.markdown_lines.specs.ThematicBreaks.{is_break_mark, is_of_break, is_thematic_break, IsBrokenOff}
use Rattle.markdown_lines.specs.ThematicBreaks.{underline_level, setext_level}
use Rattle.markdown_lines.specs.Lines.{is_space_or_tab}

three : (a b c : Bool) → a ≡ true → b ≡ true → c ≡ true → (a && b && c) ≡ true
three a b c p q r = rw (p, q, r) refl

not_three : (a b c : Bool) → a ≡ true → b ≡ true → c ≡ false → (a && b && c) ≡ false
not_three a b c p q r = rw (p, q, r) refl

-- all of content is of the kind of its first character
unfoldable AllOf : ℕ → List ℕ → Type 0
AllOf mark content = prefix_len (is_of_break mark) content ≡ length content

break_from : (mark : ℕ) (xs : List ℕ) → is_break_mark mark ≡ true → AllOf mark (mark ∷ xs)
    → 3 ≤ count_by (λ b. b == mark) (mark ∷ xs) → is_thematic_break (mark ∷ xs) ≡ true
unfolding AllOf
break_from mark xs kind all many = three _ _ _ kind (eq-eqb _ _ all) (le-leb _ _ many)

few_from : (mark : ℕ) (xs : List ℕ) → is_break_mark mark ≡ true → AllOf mark (mark ∷ xs)
    → count_by (λ b. b == mark) (mark ∷ xs) < 3 → IsBrokenOff (mark ∷ xs) 0
unfolding AllOf
few_from mark xs kind all few = record {
  none = not_three _ _ _ kind (eq-eqb _ _ all) (lt-leb _ _ few);
  value = rw (kind, le-ltb (prefix_len (is_of_break mark) (mark ∷ xs)) (length (mark ∷ xs)) (omega (arith, all))) refl;
}

-- three or more of a character in content of its kind are a break
pub break_is : (content : List ℕ) (mark : ℕ) → Some mark ≡ slice_get content 0 → is_break_mark mark ≡ true
    → prefix_len (is_of_break mark) content ≡ length content → 3 ≤ count_by (λ b. b == mark) content
    → is_thematic_break content ≡ true
unfolding AllOf
break_is [] mark first kind all many = cc
break_is (x ∷ xs) mark first kind all many =
    let e : x ≡ mark = cc in
    subst (λ m. is_thematic_break (m ∷ xs) ≡ true) (sym e)
    (break_from mark xs kind (subst (λ m. AllOf mark (m ∷ xs)) e all)
    (subst (λ m. 3 ≤ count_by (λ b. b == mark) (m ∷ xs)) e many))

-- and fewer are not
pub few_marks : (content : List ℕ) (mark : ℕ) → Some mark ≡ slice_get content 0 → is_break_mark mark ≡ true
    → prefix_len (is_of_break mark) content ≡ length content → count_by (λ b. b == mark) content < 3
    → IsBrokenOff content 0
unfolding AllOf
few_marks [] mark first kind all few = cc
few_marks (x ∷ xs) mark first kind all few =
    let e : x ≡ mark = cc in
    subst (λ m. IsBrokenOff (m ∷ xs) 0) (sym e)
    (few_from mark xs kind (subst (λ m. AllOf mark (m ∷ xs)) e all)
    (subst (λ m. count_by (λ b. b == mark) (m ∷ xs) < 3) e few))

setext_from : (first : ℕ) (xs rest : List ℕ) (count : ℕ) (white : Bool) → rest ≡ drop count (first ∷ xs)
    → count ≡ prefix_len (λ b. b == first) (first ∷ xs) → list_all is_space_or_tab rest ≡ white
    → (if white then underline_level first else None) ≡ setext_level (first ∷ xs)
setext_from first xs rest count white r n w = rw (← n, ← r, w) refl

-- an underline, by what follows the run of its first character
pub setext_is : (content rest : List ℕ) (first count : ℕ) (white : Bool) → Some first ≡ slice_get content 0
    → rest ≡ drop count content → count ≡ prefix_len (λ b. b == first) content → list_all is_space_or_tab rest ≡ white
    → (if white then underline_level first else None) ≡ setext_level content
setext_is [] rest first count white at r n w = cc
setext_is (x ∷ xs) rest first count white at r n w =
    let e : x ≡ first = cc in
    subst (λ m. (if white then underline_level first else None) ≡ setext_level (m ∷ xs)) (sym e)
    (setext_from first xs rest count white (subst (λ m. rest ≡ drop count (m ∷ xs)) e r)
    (subst (λ m. count ≡ prefix_len (λ b. b == first) (m ∷ xs)) e n) w)
