-- Lemmas of the laws of what is scanned.
use Rattle.std.proofs.Common.{◌++◌, zero, ◌<◌, ◌≡◌, suc, arith, ℕ, ◌+◌, ◌==◌, not, List, [], ◌∷◌, Bool, true, false}
use Rattle.std.proofs.Common.{Option, Some, None, if◌then◌else◌, take, length, refl, ap, ◌∙◌, option_and_then}
use Rattle.std.proofs.lemmas.Bool.{and_parts, cond_both}
use Rattle.std.proofs.lemmas.Bool.Decides.{nat_tests}
use Rattle.std.proofs.lemmas.Str.{encode_ascii}
use Rattle.std.specs.Char.{is_ascii_punctuation}
use Rattle.std.specs.Prelude.{IfSome, IsTrue, take_while}
use Rattle.std.specs.List.{list_all, position_or_len, prefix_len}
use Rattle.std.proofs.lemmas.List.Folds.{length-prefix_len}
use Rattle.std.specs.Option.{option_map}
use Rattle.markdown_scan.specs.Entity.{entity}
use Rattle.markdown_scan.specs.Together.{may_begin_reference}
use Rattle.markdown_scan.specs.declared.entity.EntityNames.{EntityNames}
use Rattle.markdown_scan.proofs.ReferenceLemmas.{IsEntity, IsEntity-entity}
use Rattle.markdown_scan.specs.AsciiKinds.{is_control_or_space}
use Rattle.markdown_base.specs.Bytes.{backslash}
use Rattle.markdown_scan.specs.Backslash.{is_bare}
use Rattle.markdown_scan.specs.Destination.{bare_destination, bare_length, end_of_bare, is_past_bare, is_too_deep}
use Rattle.markdown_scan.specs.Destination.{open_after}
use Rattle.markdown_scan.specs.Label.{LabelByte, body, dropped, fits_label, kept, label_body, label_bytes, put_before}
use Rattle.markdown_scan.specs.Label.{refused, shown, with_shown}
use Rattle.markdown_scan.proofs.LabelTextLemmas.{neither}
use Rattle.markdown_scan.proofs.LineStartLemmas.{no_space_from}
use Rattle.markdown_scan.specs.ScanLaws.{holds_bare_bracket, is_in_bare, is_plain_byte, TabGoesToTheNextStop}
use Rattle.markdown_scan.specs.ScanLaws.{EntityBeginsAndEnds, StandsBetween}
use Rattle.markdown_scan.specs.Unescape.{escape_or_entity, unescaped}
use Rattle.markdown_scan.proofs.UnescapeLemmas.{no_reference, step_byte, step_reference}

-- the elements before the first that fails a test pass it
passing_first : (p : ℕ → Bool) (x : ℕ) (xs : List ℕ) (b : Bool) → p x ≡ b → list_all p (take (prefix_len p xs) xs)
    ≡ true
    → list_all p (take (prefix_len p (x ∷ xs)) (x ∷ xs)) ≡ true
passing_first p x xs true passes rest =
    let one : 1 + prefix_len p xs ≡ suc (prefix_len p xs) = omega arith in
    rw (passes, one, passes) rest
passing_first p x xs false fails rest = rw fails

passing : (p : ℕ → Bool) (xs : List ℕ) → list_all p (take (prefix_len p xs) xs) ≡ true
passing p [] = refl
passing p (x ∷ xs) = passing_first p x xs (p x) refl (passing p xs)

-- the elements that `take_while` takes pass its test
pub all_taken : (p : ℕ → Bool) (xs : List ℕ) → list_all p (take (length (take_while p xs)) xs) ≡ true
all_taken p xs =
    let size : length (take_while p xs) ≡ prefix_len p xs = length-prefix_len p xs in
    rw size (passing p xs)

-- a fact about the text that was found
pub if_found : (b : Bool) (at n : ℕ) (bytes : List ℕ) (p : ℕ → Bool) → list_all p (take n bytes) ≡ true
    → IfSome {T = ℕ × List ℕ} (option_map (λ m. (at + m + 1, take m bytes)) (if b then Some n else None))
    (λ found. IsTrue (list_all p found.1))
if_found true at n bytes p all = all
if_found false at n bytes p all = tt

-- a plain text stands for itself
pub plain_stands : (names : EntityNames) (in_table : Bool) (text : List ℕ) → list_all is_plain_byte text ≡ true
    → unescaped names in_table text ≡ text
plain_stands names in_table [] h = refl
plain_stands names in_table (b ∷ text) h =
    let parts = and_parts (is_plain_byte b) (list_all is_plain_byte text) h in
    step_byte names in_table b text (no_reference names in_table b text (begins_none b parts.0))
    ∙ ap (λ rest. b ∷ rest) (plain_stands names in_table text parts.1)
  where
    begins_none : (c : ℕ) → is_plain_byte c ≡ true → may_begin_reference c ≡ false
    begins_none c e = grind (arith, nat_tests)

-- a backslash and punctuation stand for the punctuation
pub escape_stands : (names : EntityNames) (mark : ℕ) (text : List ℕ) → is_ascii_punctuation mark ≡ true
    → unescaped names false (92 ∷ mark ∷ text) ≡ mark ∷ unescaped names false text
escape_stands names mark text e =
    let found : escape_or_entity names false (92 ∷ mark ∷ text) ≡ Some (2, mark ∷ []) = rw e refl in
    step_reference names false (92 ∷ mark ∷ text) 2 (mark ∷ []) found
    ∙ ap (λ bytes. (bytes ++ []) ++ unescaped names false text) (encode_ascii mark (ascii mark e))
  where
    ascii : (c : ℕ) → is_ascii_punctuation c ≡ true → c < 128
    ascii c h = grind (arith, nat_tests)

-- before the first element that passes a test none passes it
before_first_step : (p : ℕ → Bool) (x : ℕ) (xs : List ℕ) (b : Bool) → p x ≡ b
    → list_all (λ y. not (p y)) (take (position_or_len p xs) xs) ≡ true
    → list_all (λ y. not (p y)) (take (position_or_len p (x ∷ xs)) (x ∷ xs)) ≡ true
before_first_step p x xs true passes rest = rw passes refl
before_first_step p x xs false fails rest =
    let one : 1 + position_or_len p xs ≡ suc (position_or_len p xs) = omega arith in
    rw (fails, one, fails) rest

pub before_first : (p : ℕ → Bool) (xs : List ℕ)
    → list_all (λ y. not (p y)) (take (position_or_len p xs) xs) ≡ true
before_first p [] = refl
before_first p (x ∷ xs) = before_first_step p x xs (p x) refl (before_first p xs)

-- an entity
pub entity_between : (names : EntityNames) (bytes : List ℕ) → EntityBeginsAndEnds names bytes
entity_between names bytes = by (entity names bytes) (IsEntity-entity names bytes)
  where
    by : (found : Option (ℕ × List ℕ)) → IfSome found (λ r. IsEntity bytes r.0)
        → IfSome found (λ r. StandsBetween 38 59 bytes r.0)
    by None is = tt
    by (Some r) is = (is.opens, is.closes)

-- one byte more of a destination
bare_more : (b : ℕ) (bytes : List ℕ) (found : Option ℕ) → is_control_or_space b ≡ false
    → IfSome found (λ n. list_all is_in_bare (take n bytes) ≡ true)
    → IfSome (option_map (λ n. 1 + n) found) (λ n. list_all is_in_bare (take n (b ∷ bytes)) ≡ true)
bare_more b bytes None kind later = tt
bare_more b bytes (Some n) kind later =
    let one : 1 + n ≡ suc n = omega arith in
    rw (one, kind) later

-- the bytes of a destination in no brackets
bare_plain : (max_nesting : ℕ) (escaped : Bool) (opened : ℕ) (bytes : List ℕ)
    → IfSome (bare_length max_nesting escaped opened bytes)
    (λ n. list_all is_in_bare (take n bytes) ≡ true)
bare_plain max_nesting escaped opened [] =
    cond_both (opened == 0) (Some 0) None (λ o. IfSome o (λ n. list_all is_in_bare (take n []) ≡ true))
    (λ e. refl) (λ e. tt)
bare_plain max_nesting escaped opened (b ∷ bytes) =
    let P = λ (o : Option ℕ). IfSome o (λ n. list_all is_in_bare (take n (b ∷ bytes)) ≡ true) in
    let later = bare_length max_nesting (is_bare escaped b backslash) (open_after escaped b opened) bytes in
    cond_both (is_past_bare escaped opened b) (end_of_bare opened)
    (if is_too_deep max_nesting escaped opened b then None else option_map (λ n. 1 + n) later) P
    (λ e. cond_both (opened == 0) (Some 0) None P (λ e. refl) (λ e. tt))
    (λ e. cond_both (is_too_deep max_nesting escaped opened b) None (option_map (λ n. 1 + n) later) P
    (λ f. tt)
    (λ f. bare_more b bytes later (neither _ _ e).0
    (bare_plain max_nesting (is_bare escaped b backslash) (open_after escaped b opened) bytes)))

pub bare_destination_plain : (max_nesting : ℕ) (bytes : List ℕ)
    → IfSome (bare_destination max_nesting bytes) (λ d. IsTrue (list_all is_in_bare d.1))
bare_destination_plain max_nesting bytes =
    taken (bare_length max_nesting false 0 bytes) (bare_plain max_nesting false 0 bytes)
  where
    taken : (found : Option ℕ) → IfSome found (λ n. list_all is_in_bare (take n bytes) ≡ true)
        → IfSome {T = ℕ × List ℕ} (option_map (λ n. (n, take n bytes)) found)
        (λ d. IsTrue (list_all is_in_bare d.1))
    taken None h = tt
    taken (Some n) h = h

-- one byte of a line's prefix more
bracket_dropped : (escaped : Bool) (rest : List LabelByte) (found : Option (ℕ × List ℕ))
    → IfSome found (λ f. holds_bare_bracket escaped (take f.0 rest) ≡ false)
    → IfSome (put_before 1 [] found)
    (λ f. holds_bare_bracket escaped (take f.0 (dropped ∷ rest)) ≡ false)
bracket_dropped escaped rest None h = tt
bracket_dropped escaped rest (Some f) h =
    let one : 1 + f.0 ≡ suc f.0 = omega arith in
    rw one h

-- one byte of the label more
bracket_kept : (escaped : Bool) (b : ℕ) (text : List ℕ) (rest : List LabelByte)
    (found : Option (ℕ × List ℕ)) → is_bare escaped b 93 ≡ false → is_bare escaped b 91 ≡ false
    → IfSome found (λ f. holds_bare_bracket (is_bare escaped b backslash) (take f.0 rest) ≡ false)
    → IfSome (put_before 1 text found)
    (λ f. holds_bare_bracket escaped (take f.0 (kept b ∷ rest)) ≡ false)
bracket_kept escaped b text rest None closes opens h = tt
bracket_kept escaped b text rest (Some f) closes opens h =
    let one : 1 + f.0 ≡ suc f.0 = omega arith in
    rw (one, closes, opens) h

-- before the closing bracket no other one stands bare
no_bare_bracket : (escaped : Bool) (bytes : List LabelByte)
    → IfSome (body escaped bytes)
    (λ f. holds_bare_bracket escaped (take f.0 bytes) ≡ false)
no_bare_bracket escaped [] = tt
no_bare_bracket escaped (refused ∷ rest) = tt
no_bare_bracket escaped (dropped ∷ rest) =
    bracket_dropped escaped rest (body escaped rest)
    (no_bare_bracket escaped rest)
no_bare_bracket escaped (kept b ∷ rest) =
    let P = λ (o : Option (ℕ × List ℕ)).
    IfSome o (λ f. holds_bare_bracket escaped (take f.0 (kept b ∷ rest)) ≡ false) in
    let later = body (is_bare escaped b backslash) rest in
    let more = put_before 1 (b ∷ []) later in
    cond_both (is_bare escaped b 93) (Some (0, [])) (if is_bare escaped b 91 then None else more) P
    (λ e. refl)
    (λ e. cond_both (is_bare escaped b 91) None more P (λ f. tt)
    (λ f. bracket_kept escaped b (b ∷ []) rest later e f
    (no_bare_bracket (is_bare escaped b backslash) rest)))

pub label_bracket : (in_table : Bool) (bytes : List ℕ) (skipped : List ℕ → Option ℕ)
    → IfSome (label_body skipped in_table bytes)
    (λ f. holds_bare_bracket false (take f.0 (label_bytes skipped 0 bytes)) ≡ false)
label_bracket in_table bytes skipped =
    fitting (body false (label_bytes skipped 0 bytes))
    (no_bare_bracket false (label_bytes skipped 0 bytes))
  where
    fitting : (found : Option (ℕ × List ℕ))
        → IfSome found (λ f. holds_bare_bracket false (take f.0 (label_bytes skipped 0 bytes)) ≡ false)
        → IfSome (option_and_then (λ f. if fits_label f.1 then Some f else None) (with_shown in_table found))
        (λ f. holds_bare_bracket false (take f.0 (label_bytes skipped 0 bytes)) ≡ false)
    fitting None h = tt
    fitting (Some f) h =
        let text = shown in_table f.1 in
        cond_both (fits_label text) (Some (f.0, text)) None
        (λ o. IfSome o (λ f. holds_bare_bracket false (take f.0 (label_bytes skipped 0 bytes)) ≡ false))
        (λ e. h) (λ e. tt)

-- at most three spaces and a tab
pub tab_stop : (spaces : ℕ) (bytes : List ℕ) → TabGoesToTheNextStop spaces bytes
tab_stop zero bytes few = rw (no_space_from 1 0 bytes) refl
tab_stop (suc zero) bytes few = rw (no_space_from 2 0 bytes) refl
tab_stop (suc (suc zero)) bytes few = rw (no_space_from 3 0 bytes) refl
tab_stop (suc (suc (suc zero))) bytes few = rw (no_space_from 4 0 bytes) refl
tab_stop (suc (suc (suc (suc n)))) bytes few = absurd (omega (arith, few))
