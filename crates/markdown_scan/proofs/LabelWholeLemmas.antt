-- Where a label's text is its source as it is.
use Rattle.std.proofs.Common.{◌≡◌, ℕ, suc, ◌+◌, List, [], ◌∷◌, ◌++◌, Bool, true, false, not, ◌&&◌, ◌||◌, Option, Some}
use Rattle.std.proofs.Common.{None, IfSome, take, inl, inr, refl, sym, ◌∙◌, ap, arith, ◌==◌, is_none, unwrap_or}
use Rattle.std.proofs.Common.{if◌then◌else◌, nat_le, count_by, length-take, take_all, option_and_then}
use Rattle.std.specs.List.{list_any}
use Rattle.std.specs.Option.{option_map}
use Rattle.std.proofs.lemmas.Option.{none-some, same_Some}
use Rattle.std.proofs.lemmas.Bool.{cond_both, and_parts}
use Rattle.std.proofs.lemmas.Bool.Decides.{nat_tests, eqb_tells}
use Rattle.markdown_base.specs.Bytes.{backslash, space}
use Rattle.markdown_scan.specs.AsciiKinds.{is_white_space}
use Rattle.markdown_scan.specs.Backslash.{begins_pipe, is_bare}
use Rattle.markdown_scan.specs.Label.{label_bytes, body, put_before, shown, with_shown, collapse_whitespace, gap}
use Rattle.markdown_scan.specs.Label.{refused, begins_character, fits_label, is_not_white_space}
use Rattle.markdown_scan.specs.LinePrefix.{prefix_after, ends_line}
use Rattle.markdown_scan.specs.LabelScan.{found_in, end_after, stays, is_collapsed}

-- a byte that stays and is no space
solid_byte : (spaced : Bool) (b : ℕ) → stays spaced b ≡ true → (b == space) ≡ false → is_white_space b ≡ false
solid_byte spaced b kept other = grind (arith, nat_tests)

-- a space that stays follows no other
lone_space : (spaced : Bool) (b : ℕ) → stays spaced b ≡ true → b ≡ space → spaced ≡ false
lone_space true b kept is = absurd (grind (arith, nat_tests))
lone_space false b kept is = refl

-- no byte that stays ends a line
stays_on_line : (spaced : Bool) (b : ℕ) (bytes : List ℕ) → stays spaced b ≡ true → ends_line b bytes ≡ false
stays_on_line spaced b bytes kept =
    let feed : (b == 10) ≡ false = grind (arith, nat_tests) in
    let return : (b == 13) ≡ false = grind (arith, nat_tests) in
    rw (feed, return)

-- collapsing the white space of such bytes changes nothing, after another byte and at most one space
collapsed_after : (spaced : Bool) (bytes : List ℕ) → is_collapsed spaced bytes ≡ true
    → collapse_whitespace true spaced bytes ≡ gap true spaced ++ bytes
collapsed_after true [] h = cc
collapsed_after false [] h = refl
collapsed_after spaced (b ∷ bytes) h =
    let both = and_parts (stays spaced b) (is_collapsed (b == space) bytes) h in
    elim (eqb_tells b space) [
      | inl same ↦
          let later = collapsed_after true bytes (rw same.0 at both.1) in
          let none = lone_space spaced b both.0 same.1 in
          rw (none, same.1) later
      | inr other ↦
          let later = collapsed_after false bytes (rw other.0 at both.1) in
          rw (solid_byte spaced b both.0 other.0) (ap (λ (xs : List ℕ). gap true spaced ++ b ∷ xs) later)
    ]

-- nor does it if they are the whole text
collapsed_whole : (bytes : List ℕ) → is_collapsed true bytes ≡ true → collapse_whitespace false false bytes ≡ bytes
collapsed_whole [] h = refl
collapsed_whole (b ∷ bytes) h =
    let both = and_parts (stays true b) (is_collapsed (b == space) bytes) h in
    elim (eqb_tells b space) [
      | inl same ↦ cc (lone_space true b both.0 same.1)
      | inr other ↦
          let later = collapsed_after false bytes (rw other.0 at both.1) in
          rw (solid_byte true b both.0 other.0) (ap (λ (xs : List ℕ). b ∷ xs) later)
    ]

never_both : (a b : Bool) → (a && false && b) ≡ false
never_both true b = refl
never_both false b = refl

-- in no table each byte is shown
shown_whole : (bytes : List ℕ) → shown false bytes ≡ bytes
shown_whole [] = refl
shown_whole (b ∷ bytes) =
    rw (never_both (b == backslash) (begins_pipe bytes)) (ap (λ (xs : List ℕ). b ∷ xs) (shown_whole bytes))

-- where nothing is to be collapsed before a label's end, this is the label's text
abbrev IsWholeText : List ℕ → (ℕ × List ℕ) → Type 0
IsWholeText bytes f = (spaced : Bool) → is_collapsed spaced (take f.0 bytes) ≡ true → f.1 ≡ take f.0 bytes

-- the same with one byte before those: no line prefix follows it, since it ends no line
whole_after : (b : ℕ) (bytes : List ℕ) (later : Option (ℕ × List ℕ))
    → (ends_line b bytes ≡ false → IfSome later (IsWholeText bytes))
    → IfSome (put_before 1 (b ∷ []) later) (IsWholeText (b ∷ bytes))
whole_after b bytes None whole = tt
whole_after b bytes (Some g) whole = λ spaced h.
    let one : 1 + g.0 ≡ suc g.0 = omega arith in
    let both = and_parts (stays spaced b) (is_collapsed (b == space) (take g.0 bytes)) (rw one at h) in
    rw one (ap (λ (xs : List ℕ). b ∷ xs) (whole (stays_on_line spaced b bytes both.0) (b == space) both.1))

-- this holds at each label, before backslashes are removed
body_whole : (skipped : List ℕ → Option ℕ) (escaped : Bool) (bytes : List ℕ)
    → IfSome (body escaped (label_bytes skipped 0 bytes)) (IsWholeText bytes)
body_whole skipped escaped [] = tt
body_whole skipped escaped (b ∷ bytes) =
    let P = λ (o : Option (ℕ × List ℕ)). IfSome o (IsWholeText (b ∷ bytes)) in
    let rest = if is_none (prefix_after skipped b bytes) then refused ∷ []
    else label_bytes skipped (unwrap_or (prefix_after skipped b bytes) 0) bytes in
    let later = body (is_bare escaped b backslash) rest in
    let more = put_before 1 (b ∷ []) later in
    cond_both (is_bare escaped b 93) (Some (0, [])) (if is_bare escaped b 91 then None else more) P
    (λ e spaced h. refl)
    (λ e. cond_both (is_bare escaped b 91) None more P (λ f. tt) (λ f. whole_after b bytes later
    (λ on_line. rw on_line (body_whole skipped (is_bare escaped b backslash) bytes))))

-- what a test lets through
end_of : (b : Bool) (n m : ℕ) → Some n ≡ (if b then Some m else None) → n ≡ m
end_of true n m e = same_Some n m e
end_of false n m e = cc

-- the source of a label, which the scan for its end tells
pub source_before_end : (n : ℕ) (text : List ℕ) (found : Option (ℕ × List ℕ)) → Some n ≡ end_after 0 0 false found
    → IfSome found (λ f. take n text ≡ take f.0 text)
source_before_end n text None e = tt
source_before_end n text (Some f) e =
    let sum : 0 + f.0 ≡ f.0 = omega arith in
    ap (λ (k : ℕ). take k text)
    (end_of (nat_le (0 + count_by begins_character f.1) 999 && (false || list_any is_not_white_space f.1)) n (0 + f.0) e
    ∙ sum)

-- it holds in no table as the text is shown, with its white space collapsed
found_whole : (source text : List ℕ) (o : Option (ℕ × List ℕ)) → IfSome o (IsWholeText text)
    → IfSome (with_shown false o) (λ f. source ≡ take f.0 text) → is_collapsed true source ≡ true
    → IfSome (with_shown false o) (λ f. source ≡ collapse_whitespace false false f.1)
found_whole source text None whole is kept = tt
found_whole source text (Some f) whole is kept =
    let same : f.1 ≡ source = whole true (rw is at kept) ∙ sym is in
    rw (shown_whole f.1, same) (sym (collapsed_whole source kept))

-- the source of a label in no table is its text, if nothing is to be collapsed in it
pub source_is_text : (skipped : List ℕ → Option ℕ) (in_table : Bool) (source text : List ℕ)
    → IfSome (found_in skipped in_table false text) (λ f. source ≡ take f.0 text)
    → (not in_table && is_collapsed true source) ≡ true
    → IfSome (found_in skipped in_table false text) (λ f. source ≡ collapse_whitespace false false f.1)
source_is_text skipped true source text is kept = cc
source_is_text skipped false source text is kept =
    found_whole source text (body false (label_bytes skipped 0 text)) (body_whole skipped false text) is kept

-- the label of what was found, if it passes the test
abbrev label_if : Bool → (ℕ × List ℕ) → Option (ℕ × List ℕ)
label_if fits f =
    option_map (λ g. (g.0 + 1, collapse_whitespace false false g.1)) (if fits then Some f else None)

-- the label of what was found
abbrev label_of : Option (ℕ × List ℕ) → Option (ℕ × List ℕ)
label_of found = option_map (λ f. (f.0 + 1, collapse_whitespace false false f.1))
    (option_and_then (λ f. if fits_label f.1 then Some f else None) found)

-- what was found has the place of the label's end if it passes the test
end_if : (end : Option ℕ) (f : ℕ × List ℕ) → end ≡ end_after 0 0 false (Some f)
    → end ≡ (if fits_label f.1 then Some f.0 else None)
end_if end f e =
    let place : 0 + f.0 ≡ f.0 = omega arith in
    let count : 0 + count_by begins_character f.1 ≡ count_by begins_character f.1 = omega arith in
    rw (place, count) at e

none_if : (fits : Bool) (f : ℕ × List ℕ) → None ≡ (if fits then Some f.0 else None) → None ≡ label_if fits f
none_if true f e = cc
none_if false f e = refl

some_if : (fits : Bool) (n : ℕ) (text : List ℕ) (f : ℕ × List ℕ) → Some n ≡ (if fits then Some f.0 else None)
    → text ≡ collapse_whitespace false false f.1 → Some (n + 1, text) ≡ label_if fits f
some_if true n text f e is = rw (same_Some n f.0 e, is) refl
some_if false n text f e is = cc

same_if : (fits : Bool) (n m : ℕ) (text : List ℕ) (f : ℕ × List ℕ) → Some n ≡ (if fits then Some f.0 else None)
    → label_if fits f ≡ Some (m + 1, text) → (n ≡ m) × (collapse_whitespace false false f.1 ≡ text)
same_if true n m text f e is =
    let both = same_Some (f.0 + 1, collapse_whitespace false false f.1) (m + 1, text) is in
    let ends : f.0 + 1 ≡ m + 1 = ap (λ (p : ℕ × List ℕ). p.0) both in
    (omega (arith, same_Some n f.0 e, ends), ap (λ (p : ℕ × List ℕ). p.1) both)
same_if false n m text f e is = cc

-- a prefix of the same length of a prefix
pub take_again : (n : ℕ) (text : List ℕ) → take n (take n text) ≡ take n text
take_again n text = take_all n (take n text) (omega (arith, length-take n text))

-- there is no label without an end
pub no_label : (found : Option (ℕ × List ℕ)) → None ≡ end_after 0 0 false found → None ≡ label_of found
no_label None e = refl
no_label (Some f) e = none_if (fits_label f.1) f (end_if None f e)

-- the label with this end and this text
pub label_read : (n : ℕ) (text : List ℕ) (found : Option (ℕ × List ℕ)) → Some n ≡ end_after 0 0 false found
    → IfSome found (λ f. text ≡ collapse_whitespace false false f.1) → Some (n + 1, text) ≡ label_of found
label_read n text None e is = cc
label_read n text (Some f) e is = some_if (fits_label f.1) n text f (end_if (Some n) f e) is

-- a label whose text differs from its source is no slice of it
pub label_differs : (n m : ℕ) (text : List ℕ) (found : Option (ℕ × List ℕ)) → Some n ≡ end_after 0 0 false found
    → IfSome found (λ f. (k : ℕ) → collapse_whitespace false false f.1 ≡ take k (take n text) → ⊥)
    → label_of found ≡ Some (m + 1, take m text) → ⊥
label_differs n m text None e differs is = cc
label_differs n m text (Some f) e differs is =
    let both = same_if (fits_label f.1) n m (take m text) f (end_if (Some n) f e) is in
    differs n (both.1 ∙ (ap (λ k. take k text) (sym both.0) ∙ sym (take_again n text)))

-- a label that has an end is there
pub label_there : (n : ℕ) (found : Option (ℕ × List ℕ)) → Some n ≡ end_after 0 0 false found → label_of found ≡ None
    → ⊥
label_there n None e none = cc
label_there n (Some f) e none =
    let text = collapse_whitespace false false f.1 in
    none-some (n + 1, text) (sym none ∙ sym (label_read n text (Some f) e refl))
