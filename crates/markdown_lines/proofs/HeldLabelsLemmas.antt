-- The label of a definition, line by line.
use Rattle.std.proofs.Common.{◌≡◌, ℕ, suc, ◌+◌, ◌*◌, ◌<◌, ◌≤◌, List, [], ◌∷◌, ◌++◌, Bool, true, false, Option, Some}
use Rattle.std.proofs.Common.{None, IfSome, length, drop, take, refl, sym, ap, ◌∙◌, arith, subst, ◌==◌, not, get_or}
use Rattle.std.proofs.Common.{codes, append_assoc, count_by, ◌⊎◌, inl, inr}
use Rattle.std.proofs.Math.Utf8.{encode, encodes}
use Rattle.std.proofs.lemmas.Bool.Decides.{nat_tests}
use Rattle.std.proofs.lemmas.List.{drop_more, length-append, take-append-drop, take_all, take_more}
use Rattle.std.proofs.lemmas.List.Sums.{sum_by-append}
use Rattle.std.proofs.lemmas.Str.{encodes-chars, len_utf8_bounds, length-encode}
use Rattle.std.specs.Option.{option_map}
use Rattle.std.specs.Prelude.{option_and_then, if◌then◌else◌}
use Rattle.std.specs.Str.{IsUtf8, chars}
use Rattle.markdown_scan.specs.Backslash.{is_bare}
use Rattle.markdown_scan.specs.Beginnings.{begins_with}
use Rattle.markdown_scan.specs.Label.{begins_character, body, fits_label, kept, label_bytes, collapse_whitespace}
use Rattle.markdown_scan.specs.Label.{put_before, with_shown}
use Rattle.markdown_scan.specs.LinePrefix.{ends_line}
use Rattle.markdown_scan.specs.LineStart.{is_line_over}
use Rattle.markdown_scan.proofs.LabelLemmas.{put_before_none, put_before_twice}
use Rattle.markdown_lines.specs.DefinitionRules.{no_prefix}
use Rattle.markdown_lines.specs.HeldLabels.{HasNoColon, IsDecided, LabelGoesOn, escaped_after, label_in, label_of}

-- bytes without prefixes are all of the label
label_step : (b : ℕ) (bytes : List ℕ)
    → label_bytes no_prefix 0 (b ∷ bytes) ≡ kept b ∷ label_bytes no_prefix 0 bytes
label_step b bytes = decided (ends_line b bytes) refl
  where
    decided : (test : Bool) → ends_line b bytes ≡ test
        → label_bytes no_prefix 0 (b ∷ bytes) ≡ kept b ∷ label_bytes no_prefix 0 bytes
    decided true e = rw e refl
    decided false e = rw e refl

-- one byte more
pub label_closes : (escaped : Bool) (b : ℕ) (bytes : List ℕ) → is_bare escaped b 93 ≡ true
    → label_in escaped (b ∷ bytes) ≡ Some (0, [])
label_closes escaped b bytes is = ap (body escaped) (label_step b bytes) ∙ rw is refl

label_breaks : (escaped : Bool) (b : ℕ) (bytes : List ℕ) → is_bare escaped b 93 ≡ false
    → is_bare escaped b 91 ≡ true → label_in escaped (b ∷ bytes) ≡ None
label_breaks escaped b bytes other is = ap (body escaped) (label_step b bytes) ∙ rw (other, is) refl

pub label_more : (escaped : Bool) (b : ℕ) (bytes : List ℕ) → is_bare escaped b 93 ≡ false
    → is_bare escaped b 91 ≡ false
    → label_in escaped (b ∷ bytes) ≡ put_before 1 (b ∷ []) (label_in (is_bare escaped b 92) bytes)
label_more escaped b bytes closes breaks = ap (body escaped) (label_step b bytes) ∙ rw (closes, breaks) refl

-- a label that goes on, from the beginning and through one byte more
pub goes_on_none : (escaped : Bool) → escaped ≡ false → LabelGoesOn [] escaped
goes_on_none escaped is = record {
  broken = false;
  is = λ (more : List ℕ). ap (λ e. label_in e more) (sym is) ∙ sym (put_before_none (label_in escaped more));
}

pub goes_on_more : (bytes : List ℕ) (escaped : Bool) (b : ℕ) → LabelGoesOn bytes escaped → is_bare escaped b 93 ≡ false
    → LabelGoesOn (bytes ++ b ∷ []) (is_bare escaped b 92)
goes_on_more bytes escaped b goes other = by goes.broken goes.is (is_bare escaped b 91) refl
  where
    whole : (more : List ℕ) → label_in false ((bytes ++ b ∷ []) ++ more) ≡ label_in false (bytes ++ b ∷ more)
    whole more = ap (label_in false) (append_assoc bytes (b ∷ []) more)

    size : length bytes + 1 ≡ length (bytes ++ b ∷ [])
    size = sym (length-append bytes (b ∷ []))

    by : (broken : Bool) → ((more : List ℕ) → label_in false (bytes ++ more)
        ≡ (if broken then None else put_before (length bytes) bytes (label_in escaped more)))
        → (breaks : Bool) → is_bare escaped b 91 ≡ breaks → LabelGoesOn (bytes ++ b ∷ []) (is_bare escaped b 92)
    by true is breaks e = record {
      broken = true;
      is = λ (more : List ℕ). whole more ∙ is (b ∷ more);
    }
    by false is true e = record {
      broken = true;
      is = λ (more : List ℕ). whole more
          ∙ (is (b ∷ more) ∙ ap (put_before (length bytes) bytes) (label_breaks escaped b more other e));
    }
    by false is false e = record {
      broken = false;
      is = λ (more : List ℕ). whole more
          ∙ (is (b ∷ more)
          ∙ (ap (put_before (length bytes) bytes) (label_more escaped b more other e)
          ∙ (put_before_twice (length bytes) 1 bytes (b ∷ []) (label_in (is_bare escaped b 92) more)
          ∙ ap (λ n. put_before n (bytes ++ b ∷ []) (label_in (is_bare escaped b 92) more)) size)));
    }

-- one after another
pub goes_on_both : (bytes others : List ℕ) (escaped : Bool) → LabelGoesOn bytes false → LabelGoesOn others escaped
    → LabelGoesOn (bytes ++ others) escaped
goes_on_both bytes others escaped first second = by first.broken first.is second.broken second.is
  where
    whole : (more : List ℕ) → label_in false ((bytes ++ others) ++ more) ≡ label_in false (bytes ++ (others ++ more))
    whole more = ap (label_in false) (append_assoc bytes others more)

    by : (broken : Bool) → ((more : List ℕ) → label_in false (bytes ++ more)
        ≡ (if broken then None else put_before (length bytes) bytes (label_in false more)))
        → (breaks : Bool) → ((more : List ℕ) → label_in false (others ++ more)
        ≡ (if breaks then None else put_before (length others) others (label_in escaped more)))
        → LabelGoesOn (bytes ++ others) escaped
    by true is breaks then_is = record {
      broken = true;
      is = λ (more : List ℕ). whole more ∙ is (others ++ more);
    }
    by false is true then_is = record {
      broken = true;
      is = λ (more : List ℕ). whole more
          ∙ (is (others ++ more) ∙ ap (put_before (length bytes) bytes) (then_is more));
    }
    by false is false then_is = record {
      broken = false;
      is = λ (more : List ℕ). whole more
          ∙ (is (others ++ more)
          ∙ (ap (put_before (length bytes) bytes) (then_is more)
          ∙ (put_before_twice (length bytes) (length others) bytes others (label_in escaped more)
          ∙ ap (λ n. put_before n (bytes ++ others) (label_in escaped more)) (sym (length-append bytes others)))));
    }

-- a label that ends
pub decided_here : (bytes : List ℕ) (at : ℕ) (escaped : Bool) → at < length bytes
    → LabelGoesOn (take at bytes) escaped → is_bare escaped (get_or bytes at 0) 93 ≡ true → IsDecided bytes
decided_here bytes at escaped less goes is more =
    closed (drop (at + 1) bytes ++ more) bytes_are ∙ sym (closed (drop (at + 1) bytes) cut)
  where
    cut : bytes ≡ take at bytes ++ get_or bytes at 0 ∷ drop (at + 1) bytes
    cut = sym (take-append-drop at bytes) ∙ ap (λ (xs : List ℕ). take at bytes ++ xs) (drop_more bytes at 0 less)

    bytes_are : bytes ++ more ≡ take at bytes ++ get_or bytes at 0 ∷ (drop (at + 1) bytes ++ more)
    bytes_are = ap (λ (xs : List ℕ). xs ++ more) cut
        ∙ append_assoc (take at bytes) (get_or bytes at 0 ∷ drop (at + 1) bytes) more

    closed : (rest : List ℕ) {whole : List ℕ} → whole ≡ take at bytes ++ get_or bytes at 0 ∷ rest
        → label_in false whole
        ≡ (if goes.broken then None else put_before (length (take at bytes)) (take at bytes) (Some (0, [])))
    closed rest e = ap (label_in false) e
        ∙ (goes.is (get_or bytes at 0 ∷ rest)
        ∙ ap (λ (f : Option (ℕ × List ℕ)). if goes.broken then None
        else put_before (length (take at bytes)) (take at bytes) f)
        (label_closes escaped (get_or bytes at 0) rest is))

-- one byte more is escaped, or not
pub escaped_more : (escaped : Bool) (bytes : List ℕ) (b : ℕ)
    → escaped_after escaped (bytes ++ b ∷ []) ≡ is_bare (escaped_after escaped bytes) b 92
escaped_more escaped [] b = refl
escaped_more escaped (c ∷ bytes) b = escaped_more (is_bare escaped c 92) bytes b

-- the label goes on through the bytes up to a place
pub record IsThrough (bytes : List ℕ) (at : ℕ) (escaped : Bool) : Type 0 where
  pub state : escaped ≡ escaped_after false (take at bytes)
  pub goes : LabelGoesOn (take at bytes) escaped

pub through_none : (bytes : List ℕ) → IsThrough bytes 0 false
through_none bytes = record { state = refl; goes = goes_on_none false refl }

pub through_more : (bytes : List ℕ) (at : ℕ) (escaped : Bool) → at < length bytes → IsThrough bytes at escaped
    → is_bare escaped (get_or bytes at 0) 93 ≡ false
    → IsThrough bytes (at + 1) (is_bare escaped (get_or bytes at 0) 92)
through_more bytes at escaped less through other =
    let one = take_more bytes at 0 less in
    record {
      state = ap (λ e. is_bare e (get_or bytes at 0) 92) through.state
          ∙ (sym (escaped_more false (take at bytes) (get_or bytes at 0)) ∙ ap (escaped_after false) (sym one));
      goes = subst (λ (xs : List ℕ). LabelGoesOn xs (is_bare escaped (get_or bytes at 0) 92)) (sym one)
          (goes_on_more (take at bytes) escaped (get_or bytes at 0) through.goes other);
    }

pub through_all : (bytes : List ℕ) (at : ℕ) (escaped : Bool) → length bytes ≤ at → IsThrough bytes at escaped
    → LabelGoesOn bytes (escaped_after false bytes)
through_all bytes at escaped all through =
    subst (λ (xs : List ℕ). LabelGoesOn xs (escaped_after false xs)) (take_all at bytes all)
    (subst (λ e. LabelGoesOn (take at bytes) e) through.state through.goes)

pub decided_after : (bytes others : List ℕ) → LabelGoesOn bytes false → IsDecided others → IsDecided (bytes ++ others)
decided_after bytes others goes decided more =
    ap (label_in false) (append_assoc bytes others more)
    ∙ (goes.is (others ++ more)
    ∙ (ap (λ (f : Option (ℕ × List ℕ)). if goes.broken then None else put_before (length bytes) bytes f) (decided more)
    ∙ sym (goes.is others)))

-- labels whose ends are the same are the same
pub same_label : (bytes others : List ℕ) → label_in false bytes ≡ label_in false others
    → label_of bytes ≡ label_of others
same_label bytes others is =
    ap (λ (f : Option (ℕ × List ℕ)). option_map (λ g. (g.0 + 1, collapse_whitespace false false g.1))
    (option_and_then (λ h. if fits_label h.1 then Some h else None) (with_shown false f))) is

-- a text of so many bytes has too many characters
lead_count : (c : ℕ) → 1 ≤ count_by begins_character (encode c)
unfolding encode
lead_count c = grind (arith, nat_tests)

character_count : (cs : List ℕ) → length (encodes cs) ≤ 4 * count_by begins_character (encodes cs)
character_count [] = omega arith
character_count (c ∷ cs) =
    let rest = character_count cs in
    let one = lead_count c in
    let few = len_utf8_bounds c in
    let few_most = few.1 in
    let sum = sum_by-append (λ x. if begins_character x then 1 else 0) (encode c) (encodes cs) in
    omega (arith, sum, one, few_most, length-encode c, rest, length-append (encode c) (encodes cs))

pub many_characters : (bytes : List ℕ) → IsUtf8 bytes → length bytes ≤ 4 * count_by begins_character bytes
many_characters bytes utf8 =
    subst (λ (xs : List ℕ). length xs ≤ 4 * count_by begins_character xs) (encodes-chars bytes utf8)
    (character_count (chars bytes))

-- where no colon follows a label, none follows it with one byte more
no_colon_more : (escaped : Bool) (b : ℕ) (rest : List ℕ) → is_bare escaped b 93 ≡ false → is_bare escaped b 91 ≡ false
    → HasNoColon (is_bare escaped b 92) rest → HasNoColon escaped (b ∷ rest)
no_colon_more escaped b rest closes breaks none =
    rw (label_more escaped b rest closes breaks) (by (label_in (is_bare escaped b 92) rest) none)
  where
    by : (found : Option (ℕ × List ℕ))
        → IfSome found (λ f. begins_with (codes ":") (drop (f.0 + 1) rest) ≡ false)
        → IfSome (put_before 1 (b ∷ []) found) (λ f. begins_with (codes ":") (drop (f.0 + 1) (b ∷ rest)) ≡ false)
    by None h = tt
    by (Some f) h =
        let same : 1 + f.0 + 1 ≡ suc (f.0 + 1) = omega arith in
        ap (λ n. begins_with (codes ":") (drop n (b ∷ rest))) same ∙ h

-- what is left decides whether no colon follows a label
abbrev pub LeavesColon : List ℕ → ℕ → Bool → Type 0
LeavesColon bytes at escaped =
    (more : List ℕ) → is_line_over more ≡ true → HasNoColon escaped (drop at bytes ++ more)
    → HasNoColon false (bytes ++ more)

pub leaves_more : (bytes : List ℕ) (at : ℕ) (escaped : Bool) → at < length bytes → LeavesColon bytes at escaped
    → is_bare escaped (get_or bytes at 0) 93 ≡ false → is_bare escaped (get_or bytes at 0) 91 ≡ false
    → LeavesColon bytes (at + 1) (is_bare escaped (get_or bytes at 0) 92)
leaves_more bytes at escaped less leaves closes breaks more over none =
    leaves more over
    (subst (λ (xs : List ℕ). HasNoColon escaped (xs ++ more)) (sym (drop_more bytes at 0 less))
    (no_colon_more escaped (get_or bytes at 0) (drop (at + 1) bytes ++ more) closes breaks none))

-- no byte that could end or escape anything
pub leaves_plain : (bytes : List ℕ) (at : ℕ) (escaped : Bool) → at < length bytes → LeavesColon bytes at escaped
    → (get_or bytes at 0 < 91) ⊎ (93 < get_or bytes at 0) → LeavesColon bytes (at + 1) false
leaves_plain bytes at escaped less leaves apart =
    let b = get_or bytes at 0 in
    let closes : (b == 93) ≡ false = unlike 93 (omega arith) apart in
    let breaks : (b == 91) ≡ false = unlike 91 (omega arith) apart in
    let slash : (b == 92) ≡ false = unlike 92 (omega arith) apart in
    subst (λ e. LeavesColon bytes (at + 1) e) (bare escaped b 92 slash)
    (leaves_more bytes at escaped less leaves (bare escaped b 93 closes) (bare escaped b 91 breaks))
  where
    unlike : (what : ℕ) → (91 ≤ what) × (what ≤ 93) → (get_or bytes at 0 < 91) ⊎ (93 < get_or bytes at 0)
        → (get_or bytes at 0 == what) ≡ false
    unlike what h (inl low) = let low_bound = h.0 in grind (arith, nat_tests)
    unlike what h (inr high) = let high_bound = h.1 in grind (arith, nat_tests)

    bare : (escaped : Bool) (b what : ℕ) → (b == what) ≡ false → is_bare escaped b what ≡ false
    bare true b what e = refl
    bare false b what e = e

-- an escaped byte, or a backslash that escapes the next one
pub leaves_escaped : (bytes : List ℕ) (at : ℕ) (escaped : Bool) → at < length bytes → LeavesColon bytes at escaped
    → (escaped ≡ true) ⊎ ((escaped ≡ false) × (get_or bytes at 0 ≡ 92)) → LeavesColon bytes (at + 1) (not escaped)
leaves_escaped bytes at escaped less leaves (inl is) =
    rw is (leaves_more bytes at true less (subst (λ e. LeavesColon bytes at e) is leaves) refl refl)
leaves_escaped bytes at escaped less leaves (inr is) =
    let slash = is.1 in
    let closes : (get_or bytes at 0 == 93) ≡ false = grind (arith, nat_tests) in
    let breaks : (get_or bytes at 0 == 91) ≡ false = grind (arith, nat_tests) in
    let opens : (get_or bytes at 0 == 92) ≡ true = grind (arith, nat_tests) in
    subst (λ e. LeavesColon bytes (at + 1) e) (opens ∙ ap not (sym is.0))
    (leaves_more bytes at false less (subst (λ e. LeavesColon bytes at e) is.0 leaves) closes breaks)

-- a bracket that opens another label
pub opens_another : (bytes : List ℕ) (at : ℕ) (escaped : Bool) → at < length bytes → LeavesColon bytes at escaped
    → escaped ≡ false → get_or bytes at 0 ≡ 91
    → (more : List ℕ) → is_line_over more ≡ true → HasNoColon false (bytes ++ more)
opens_another bytes at escaped less leaves plain is more over =
    let breaks : (get_or bytes at 0 == 91) ≡ true = grind (arith, nat_tests) in
    let closes : (get_or bytes at 0 == 93) ≡ false = grind (arith, nat_tests) in
    let bare = label_breaks false (get_or bytes at 0) (drop (at + 1) bytes ++ more) closes breaks in
    leaves more over
    (subst (λ (xs : List ℕ). HasNoColon escaped (xs ++ more)) (sym (drop_more bytes at 0 less))
    (subst (λ e. HasNoColon e (get_or bytes at 0 ∷ drop (at + 1) bytes ++ more)) (sym plain) (rw bare tt)))

-- a bracket that ends the label, without a colon
pub ends_alone : (bytes : List ℕ) (at : ℕ) (escaped : Bool) → at < length bytes → LeavesColon bytes at escaped
    → escaped ≡ false → get_or bytes at 0 ≡ 93 → begins_with (codes "]:") (drop at bytes) ≡ false
    → (more : List ℕ) → is_line_over more ≡ true → HasNoColon false (bytes ++ more)
ends_alone bytes at escaped less leaves plain is alone more over =
    let closes : (get_or bytes at 0 == 93) ≡ true = grind (arith, nat_tests) in
    let bare = label_closes false (get_or bytes at 0) (drop (at + 1) bytes ++ more) closes in
    leaves more over
    (subst (λ (xs : List ℕ). HasNoColon escaped (xs ++ more)) (sym (drop_more bytes at 0 less))
    (subst (λ e. HasNoColon e (get_or bytes at 0 ∷ drop (at + 1) bytes ++ more)) (sym plain)
    (rw bare (no_colon (drop (at + 1) bytes)
    (sym (cut (drop (at + 1) bytes)) ∙ (ap (begins_with (codes "]:")) (sym (drop_more bytes at 0 less)) ∙ alone))))))
  where
    cut : (rest : List ℕ) → begins_with (codes "]:") (get_or bytes at 0 ∷ rest) ≡ begins_with (codes ":") rest
    cut rest = ap (λ n. begins_with (codes "]:") (n ∷ rest)) is

    no_colon : (rest : List ℕ) → begins_with (codes ":") rest ≡ false → begins_with (codes ":") (rest ++ more) ≡ false
    no_colon [] e = over_no_colon more over
      where
        over_no_colon : (more : List ℕ) → is_line_over more ≡ true → begins_with (codes ":") more ≡ false
        over_no_colon [] o = refl
        over_no_colon (b ∷ more) o =
            let other : (58 == b) ≡ false = grind (arith, nat_tests) in rw other refl
    no_colon (b ∷ rest) e = e
