-- Steps of the scans of a label.
use Rattle.std.proofs.Common.{◌≡◌, ℕ, suc, zero, ◌+◌, ◌≤◌, ◌<◌, List, [], ◌∷◌, ◌++◌, Bool, true, false, ◌&&◌, ◌||◌}
use Rattle.std.proofs.Common.{Option, Some, None, if◌then◌else◌, length, drop, refl, sym, ◌∙◌, ap, arith, append_assoc}
use Rattle.std.proofs.Common.{count_by, nat_le, ◌==◌, is_none, unwrap_or, IfSome}
use Rattle.std.specs.List.{list_any}
use Rattle.std.proofs.lemmas.List.Sums.{sum_by-append}
use Rattle.std.proofs.lemmas.List.Folds.{list_any-append}
use Rattle.std.proofs.lemmas.Bool.{cond_both}
use Rattle.std.proofs.lemmas.Bool.Decides.{nat_tests}
use Rattle.std.proofs.Math.Bool.{or_assoc}
use Rattle.markdown_base.specs.Bytes.{pipe, backslash}
use Rattle.markdown_scan.specs.Backslash.{begins_pipe, escapes_pipe, is_bare}
use Rattle.markdown_scan.specs.Label.{LabelByte, kept, refused, label_bytes, body, put_before, shown, with_shown}
use Rattle.markdown_scan.specs.Label.{begins_character, is_not_white_space}
use Rattle.markdown_scan.specs.LinePrefix.{prefix_after}
use Rattle.markdown_scan.specs.LabelScan.{byte_shown, end_after, found_in}

-- two texts before what was found, joined
pub put_before_twice : (n m : ℕ) (xs ys : List ℕ) (o : Option (ℕ × List ℕ)) → put_before n xs (put_before m ys o)
    ≡ put_before (n + m) (xs ++ ys) o
put_before_twice n m xs ys None = refl
put_before_twice n m xs ys (Some r) =
    let sum : n + (m + r.0) ≡ n + m + r.0 = omega arith in
    let text : xs ++ (ys ++ r.1) ≡ (xs ++ ys) ++ r.1 = sym (append_assoc xs ys r.1) in
    rw (sum, text)

-- nothing before what was found
pub put_before_none : (o : Option (ℕ × List ℕ)) → put_before 0 [] o ≡ o
put_before_none None = refl
put_before_none (Some r) = let sum : 0 + r.0 ≡ r.0 = omega arith in rw sum

-- bytes of a prefix add nothing to the text
pub body_past_prefix : (skipped : List ℕ → Option ℕ) (escaped : Bool) (n : ℕ) (rest : List ℕ) → n ≤ length rest
    → body escaped (label_bytes skipped n rest) ≡ put_before n [] (body escaped (label_bytes skipped 0 (drop n rest)))
body_past_prefix skipped escaped zero rest h = sym (put_before_none (body escaped (label_bytes skipped 0 rest)))
body_past_prefix skipped escaped (suc n) [] h = absurd (omega arith)
body_past_prefix skipped escaped (suc n) (b ∷ bs) h =
    let shorter : n ≤ length bs = omega arith in
    let later = body_past_prefix skipped escaped n bs shorter in
    let one : 1 + n ≡ suc n = omega arith in
    ap (put_before 1 []) later
    ∙ rw one at (put_before_twice 1 n [] [] (body escaped (label_bytes skipped 0 (drop n bs))))

-- a byte that is no bracket, and the prefix after it
pub body_step : (skipped : List ℕ → Option ℕ) (escaped : Bool) (b : ℕ) (tail : List ℕ) (n : ℕ)
    → is_bare escaped b 93 ≡ false → is_bare escaped b 91 ≡ false → prefix_after skipped b tail ≡ Some n
    → n ≤ length tail
    → body escaped (label_bytes skipped 0 (b ∷ tail))
    ≡ put_before (1 + n) (b ∷ []) (body (is_bare escaped b backslash) (label_bytes skipped 0 (drop n tail)))
body_step skipped escaped b tail n no_end no_start after within =
    let past = body_past_prefix skipped (is_bare escaped b backslash) n tail within in
    let joined = put_before_twice 1 n (b ∷ []) []
    (body (is_bare escaped b backslash) (label_bytes skipped 0 (drop n tail))) in
    rw (no_end, no_start, after, past, joined)

closing_is_no_pipe : (escaped : Bool) (x : ℕ) → is_bare escaped x 93 ≡ true → false ≡ (x == pipe)
closing_is_no_pipe true x is = cc
closing_is_no_pipe false x is = grind (arith, nat_tests, is)

put_begins_pipe : (x : ℕ) (o : Option (ℕ × List ℕ))
    → IfSome (put_before 1 (x ∷ []) o) (λ f. begins_pipe f.1 ≡ (x == pipe))
put_begins_pipe x None = tt
put_begins_pipe x (Some f) = refl

kept_begins_pipe : (escaped : Bool) (x : ℕ) (rest : List LabelByte)
    → IfSome (body escaped (kept x ∷ rest)) (λ f. begins_pipe f.1 ≡ (x == pipe))
kept_begins_pipe escaped x rest =
    let P = λ (o : Option (ℕ × List ℕ)). IfSome o (λ f. begins_pipe f.1 ≡ (x == pipe)) in
    let later = body (is_bare escaped x backslash) rest in
    let more = put_before 1 (x ∷ []) later in
    cond_both (is_bare escaped x 93) (Some (0, [])) (if is_bare escaped x 91 then None else more) P
    (closing_is_no_pipe escaped x)
    (λ e. cond_both (is_bare escaped x 91) None more P (λ f. tt) (λ f. put_begins_pipe x later))

-- the text of a label begins with a pipe where its bytes do
pub begins_pipe_alike : (skipped : List ℕ → Option ℕ) (escaped : Bool) (bytes : List ℕ)
    → IfSome (body escaped (label_bytes skipped 0 bytes)) (λ f. begins_pipe f.1 ≡ begins_pipe bytes)
begins_pipe_alike skipped escaped [] = tt
begins_pipe_alike skipped escaped (x ∷ xs) =
    kept_begins_pipe escaped x (if is_none (prefix_after skipped x xs) then refused ∷ []
    else label_bytes skipped (unwrap_or (prefix_after skipped x xs) 0) xs)

one_shown : (goes : Bool) (b : ℕ) (text : List ℕ) → (if goes then text else b ∷ text)
    ≡ (if goes then [] else b ∷ []) ++ text
one_shown true b text = refl
one_shown false b text = refl

-- a byte before a text that begins with a pipe if and only if these bytes do, as it is shown
shown_before : (in_table : Bool) (m b : ℕ) (bytes : List ℕ) (o : Option (ℕ × List ℕ))
    → IfSome o (λ f. begins_pipe f.1 ≡ begins_pipe bytes)
    → with_shown in_table (put_before m (b ∷ []) o) ≡ put_before m (byte_shown in_table b bytes) (with_shown in_table o)
shown_before in_table m b bytes None same = refl
shown_before in_table m b bytes (Some f) same = rw
    (same, one_shown (escapes_pipe in_table b bytes) b (shown in_table f.1))

-- the same of the text as it is shown
pub found_step : (skipped : List ℕ → Option ℕ) (in_table escaped : Bool) (b : ℕ) (tail : List ℕ) (n : ℕ)
    → is_bare escaped b 93 ≡ false → is_bare escaped b 91 ≡ false → prefix_after skipped b tail ≡ Some n
    → n ≤ length tail
    → found_in skipped in_table escaped (b ∷ tail) ≡ put_before (1 + n) (byte_shown in_table b (drop n tail))
    (found_in skipped in_table (is_bare escaped b backslash) (drop n tail))
found_step skipped in_table escaped b tail n no_end no_start after within =
    let later = is_bare escaped b backslash in
    let rest = drop n tail in
    ap (with_shown in_table) (body_step skipped escaped b tail n no_end no_start after within)
    ∙ shown_before in_table (1 + n) b rest (body later (label_bytes skipped 0 rest))
    (begins_pipe_alike skipped later rest)

-- the end of a label, if a text precedes what was found
pub end_of_put : (at characters n : ℕ) (solid : Bool) (text : List ℕ) (o : Option (ℕ × List ℕ))
    → end_after at characters solid (put_before n text o)
    ≡ end_after (at + n) (characters + count_by begins_character text) (solid || list_any is_not_white_space text) o
end_of_put at characters n solid text None = refl
end_of_put at characters n solid text (Some f) =
    let place : at + (n + f.0) ≡ at + n + f.0 = omega arith in
    let counted = sum_by-append (λ x. if begins_character x then 1 else 0) text f.1 in
    let sum : characters + (count_by begins_character text + count_by begins_character f.1)
    ≡ characters + count_by begins_character text
    + count_by begins_character f.1 = omega arith in
    let any = list_any-append is_not_white_space text f.1 in
    rw (place, counted, sum, any, ← or_assoc solid (list_any is_not_white_space text) (list_any is_not_white_space f.1))

-- the invariant of the scan for the end, after a byte
pub end_step : (whole : Option ℕ) (skipped : List ℕ → Option ℕ) (in_table escaped solid : Bool) (at characters b : ℕ)
    (tail : List ℕ)
    (n : ℕ)
    → whole ≡ end_after at characters solid (found_in skipped in_table escaped (b ∷ tail))
    → is_bare escaped b 93 ≡ false → is_bare escaped b 91 ≡ false → prefix_after skipped b tail ≡ Some n
    → n ≤ length tail
    → whole ≡ end_after (at + 1 + n) (characters + count_by begins_character (byte_shown in_table b (drop n tail)))
    (solid
    || list_any is_not_white_space (byte_shown in_table b (drop n tail)))
    (found_in skipped in_table (is_bare escaped b backslash) (drop n tail))
end_step whole skipped in_table escaped solid at characters b tail n was no_end no_start after within =
    let later = found_in skipped in_table (is_bare escaped b backslash) (drop n tail) in
    let sum : at + (1 + n) ≡ at + 1 + n = omega arith in
    was ∙ ap (end_after at characters solid) (found_step skipped in_table escaped b tail n no_end no_start after within)
    ∙ rw sum at (end_of_put at characters (1 + n) solid (byte_shown in_table b (drop n tail)) later)

too_many : (n : ℕ) (b : Bool) (x : Option ℕ) → 999 < n → None ≡ (if nat_le n 999 && b then x else None)
too_many n b x more = grind (arith, nat_tests)

-- no label has more than 999 characters
pub too_long : (at characters : ℕ) (solid : Bool) (o : Option (ℕ × List ℕ)) → 999 < characters → None
    ≡ end_after at characters solid o
too_long at characters solid None more = refl
too_long at characters solid (Some f) more =
    let still : 999 < characters + count_by begins_character f.1 = omega arith in
    too_many (characters + count_by begins_character f.1) (solid || list_any is_not_white_space f.1) (Some (at + f.0))
    still

last : (n at end : ℕ) (solid : Bool) → nat_le n 999 ≡ true → end ≡ at
    → (if solid then Some at else None) ≡ (if nat_le n 999 && (solid || false) then Some end else None)
last n at end true few same = rw (few, same) refl
last n at end false few same = rw few refl

-- a label that is closed here
pub closed_here : (whole : Option ℕ) (skipped : List ℕ → Option ℕ) (in_table escaped solid : Bool)
    (at characters b : ℕ) (tail : List ℕ)
    → whole ≡ end_after at characters solid (found_in skipped in_table escaped (b ∷ tail))
    → is_bare escaped b 93 ≡ true → characters ≤ 999 → (if solid then Some at else None) ≡ whole
closed_here whole skipped in_table escaped solid at characters b tail was closes few =
    let fits : nat_le (characters + 0) 999 ≡ true = grind (arith, nat_tests) in
    last (characters + 0) at (at + 0) solid fits (omega arith) ∙ sym (rw closes at was)

-- none, where an opening bracket follows
pub opened_here : (whole : Option ℕ) (skipped : List ℕ → Option ℕ) (in_table escaped solid : Bool)
    (at characters b : ℕ) (tail : List ℕ)
    → whole ≡ end_after at characters solid (found_in skipped in_table escaped (b ∷ tail))
    → is_bare escaped b 93 ≡ false → is_bare escaped b 91 ≡ true → None ≡ whole
opened_here whole skipped in_table escaped solid at characters b tail was no_end opens =
    sym (rw (no_end, opens) at was)

-- none, where the text may not continue on another line
pub refused_here : (whole : Option ℕ) (skipped : List ℕ → Option ℕ) (in_table escaped solid : Bool)
    (at characters b : ℕ) (tail : List ℕ)
    → whole ≡ end_after at characters solid (found_in skipped in_table escaped (b ∷ tail))
    → is_bare escaped b 93 ≡ false → is_bare escaped b 91 ≡ false → prefix_after skipped b tail ≡ None → None ≡ whole
refused_here whole skipped in_table escaped solid at characters b tail was no_end no_start none =
    sym (rw (no_end, no_start, none) at was)
