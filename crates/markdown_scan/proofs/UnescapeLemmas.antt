-- What a text stands for, step by step, and that it has fewer ASCII bytes where anything in it is replaced.
use Rattle.std.proofs.Common.{◌≡◌, ℕ, suc, zero, ◌+◌, ◌-◌, ◌<◌, ◌≤◌, Bool, ◌==◌, false, List, [], ◌∷◌, ◌++◌}
use Rattle.std.proofs.Common.{Option, Some, None, IfSome, length, get_or, take, drop, encode_utf8_all, option_map}
use Rattle.std.proofs.Common.{append_assoc, take-append-drop, arith, refl, sym, ap, ◌∙◌, IsUtf8, IsCharBoundary}
use Rattle.std.proofs.lemmas.Bool.Decides.{nat_tests}
use Rattle.std.proofs.lemmas.List.{get_or-drop, length-drop, drop_more, take_more, drop-drop}
use Rattle.std.proofs.lemmas.Option.{same_Some}
use Rattle.std.proofs.lemmas.Str.{IsCharBoundary-after_ascii}
use Rattle.std.specs.Option.{option_map_or}
use Rattle.markdown_base.specs.Bytes.{backslash, ampersand}
use Rattle.markdown_base.proofs.ByteListLemmas.{neither}
use Rattle.markdown_entities.specs.NamedEntity.{in_utf8}
use Rattle.markdown_entities.proofs.NamedEntityLemmas.{count_ascii}
use Rattle.markdown_scan.specs.Unescape.{escape_or_entity, unescaped, unescaped_past}
use Rattle.markdown_scan.specs.Together.{may_begin_reference, IsPast}
use Rattle.markdown_scan.specs.declared.entity.EntityNames.{EntityNames}
use Rattle.markdown_scan.proofs.ReferenceLemmas.{IsReference, IsReference-reference, count-append, no_entity, no_escape}
use Rattle.markdown_scan.proofs.ReferenceLemmas.{reference_is}

-- bytes that are passed over
pub past_is : (names : EntityNames) (in_table : Bool) (n : ℕ) (bytes : List ℕ)
    → unescaped_past names in_table n bytes ≡ unescaped names in_table (drop n bytes)
past_is names in_table zero bytes = refl
past_is names in_table (suc n) [] = refl
past_is names in_table (suc n) (b ∷ bytes) = past_is names in_table n bytes

-- a byte that stands for itself
pub step_byte : (names : EntityNames) (in_table : Bool) (b : ℕ) (bytes : List ℕ)
    → escape_or_entity names in_table (b ∷ bytes) ≡ None
    → unescaped names in_table (b ∷ bytes) ≡ b ∷ unescaped names in_table bytes
step_byte names in_table b bytes e = rw e refl

-- a byte with which none begins stands for itself
pub no_reference : (names : EntityNames) (in_table : Bool) (b : ℕ) (bytes : List ℕ) → may_begin_reference b ≡ false
    → escape_or_entity names in_table (b ∷ bytes) ≡ None
no_reference names in_table b bytes none =
    let other = neither (b == backslash) (b == ampersand) none in
    rw (no_escape in_table b bytes (turned b 92 other.0) other.0) (no_entity names b bytes (turned b 38 other.1))
  where
    turned : (a c : ℕ) → (a == c) ≡ false → (c == a) ≡ false
    turned a c e = grind (arith, nat_tests)

-- a reference
pub step_reference : (names : EntityNames) (in_table : Bool) (bytes : List ℕ) (n : ℕ) (cs : List ℕ)
    → escape_or_entity names in_table bytes ≡ Some (n, cs)
    → unescaped names in_table bytes ≡ encode_utf8_all cs ++ unescaped names in_table (drop n bytes)
step_reference names in_table bytes zero cs e =
    absurd (omega (arith, (reference_is names in_table bytes (zero, cs) e).some))
step_reference names in_table [] (suc n) cs e =
    absurd (omega (arith, (reference_is names in_table [] (suc n, cs) e).within))
step_reference names in_table (b ∷ bytes) (suc n) cs e =
    let one : suc n - 1 ≡ n = omega arith in
    rw (e, one, past_is names in_table n bytes) refl

-- the ASCII bytes before a place, and from it on
parted : (n : ℕ) (bytes : List ℕ) → count_ascii bytes ≡ count_ascii (take n bytes) + count_ascii (drop n bytes)
parted n bytes = ap count_ascii (sym (take-append-drop n bytes)) ∙ count-append (take n bytes) (drop n bytes)

-- one reference or byte, and what comes after it
fewer_step : (names : EntityNames) (in_table : Bool) (b : ℕ) (bytes : List ℕ) (found : Option (ℕ × List ℕ))
    → IfSome found (IsReference (b ∷ bytes))
    → ((n : ℕ) → count_ascii (unescaped_past names in_table n bytes) ≤ count_ascii (drop n bytes))
    → count_ascii (option_map_or (λ r. encode_utf8_all r.1) found (b ∷ [])
    ++ unescaped_past names in_table (option_map_or (λ r. r.0 - 1) found 0) bytes)
    ≤ count_ascii (b ∷ bytes)
fewer_step names in_table b bytes None is later = omega (arith, later 0)
fewer_step names in_table b bytes (Some r) is later =
    let past : suc (r.0 - 1) ≡ r.0 = omega (arith, is.some) in
    let rest : drop r.0 (b ∷ bytes) ≡ drop (r.0 - 1) bytes = ap (λ n. drop n (b ∷ bytes)) (sym past) in
    omega (
      arith,
      is.fewer,
      later (r.0 - 1),
      parted r.0 (b ∷ bytes),
      ap count_ascii rest,
      count-append (encode_utf8_all r.1) (unescaped_past names in_table (r.0 - 1) bytes),
    )

past_fewer : (names : EntityNames) (in_table : Bool) (n : ℕ) (bytes : List ℕ)
    → count_ascii (unescaped_past names in_table n bytes) ≤ count_ascii (drop n bytes)
past_fewer names in_table n [] = omega arith
past_fewer names in_table (suc n) (b ∷ bytes) = past_fewer names in_table n bytes
past_fewer names in_table zero (b ∷ bytes) =
    fewer_step names in_table b bytes (escape_or_entity names in_table (b ∷ bytes))
    (IsReference-reference names in_table (b ∷ bytes)) (λ n. past_fewer names in_table n bytes)

-- the byte at a place stands for itself
pub unescaped_at_byte : (names : EntityNames) (in_table : Bool) (text : List ℕ) (at : ℕ) → at < length text
    → escape_or_entity names in_table (drop at text) ≡ None
    → unescaped names in_table text ≡ take at text ++ unescaped names in_table (drop at text)
    → unescaped names in_table text ≡ take (at + 1) text ++ unescaped names in_table (drop (at + 1) text)
unescaped_at_byte names in_table text at h none was =
    let byte = get_or text at 0 in
    let here = drop_more text at 0 h in
    let step = step_byte names in_table byte (drop (at + 1) text) (rw here at none) in
    was ∙ (ap (λ x. take at text ++ unescaped names in_table x) here ∙ (ap (λ x. take at text ++ x) step
    ∙ (sym (append_assoc (take at text) (byte ∷ []) (unescaped names in_table (drop (at + 1) text)))
    ∙ ap (λ x. x ++ unescaped names in_table (drop (at + 1) text)) (sym (take_more text at 0 h)))))

-- the bytes up to a place stand for themselves
pub unescaped_past_plain : (names : EntityNames) (in_table : Bool) (text : List ℕ) (n : ℕ)
    → IsPast may_begin_reference text n
    → unescaped names in_table text ≡ take n text ++ unescaped names in_table (drop n text)
unescaped_past_plain names in_table text zero past = refl
unescaped_past_plain names in_table text (suc n) past =
    let within = past.within in
    let here : n < length text = omega (arith, within) in
    let before = unescaped_past_plain names in_table text n
    (record { within = omega (arith, within); none = λ at h. past.none at (omega (arith, h)) }) in
    let next : n + 1 ≡ suc n = omega arith in
    rw next at (unescaped_at_byte names in_table text n here (rw (drop_more text n 0 here) (no_reference names in_table
    (get_or text n 0) (drop (n + 1) text) (past.none n (omega arith)))) before)

-- a reference stands at a place
pub unescaped_at_reference : (names : EntityNames) (in_table : Bool) (text : List ℕ) (at n : ℕ) (cs : List ℕ)
    → escape_or_entity names in_table (drop at text) ≡ Some (n, cs)
    → unescaped names in_table text ≡ take at text ++ unescaped names in_table (drop at text)
    → unescaped names in_table text
    ≡ take at text ++ (encode_utf8_all cs ++ unescaped names in_table (drop (at + n) text))
unescaped_at_reference names in_table text at n cs e was =
    was ∙ ap (λ x. take at text ++ x) (step_reference names in_table (drop at text) n cs e
    ∙ ap (λ x. encode_utf8_all cs ++ unescaped names in_table x) (drop-drop n at text))

-- the text may be cut before a reference, and after it
pub cut_before : (names : EntityNames) (in_table : Bool) (text : List ℕ) (at n : ℕ) (cs : List ℕ) → at < length text
    → escape_or_entity names in_table (drop at text) ≡ Some (n, cs) → IsCharBoundary text at
cut_before names in_table text at n cs h e =
    let first : get_or text (at + 0) 0 < 128 =
    rw get_or-drop at (reference_is names in_table (drop at text) (n, cs) e).first in
    let here : at + 0 ≡ at = omega arith in
    let ascii : get_or text at 0 < 128 = rw here at first in
    (omega (arith, h), λ more high. absurd (omega (arith, ascii, high)))

pub cut_after : (names : EntityNames) (in_table : Bool) (text : List ℕ) (at n : ℕ) (cs : List ℕ) → IsUtf8 text
    → at < length text → escape_or_entity names in_table (drop at text) ≡ Some (n, cs) → IsCharBoundary text (at + n)
cut_after names in_table text at n cs utf8 h e =
    let is = reference_is names in_table (drop at text) (n, cs) e in
    let within : at + (n - 1) < length text = omega (arith, is.within, is.some, length-drop at text) in
    let ascii : get_or text (at + (n - 1)) 0 < 128 = rw get_or-drop at is.ends in
    let sum : at + (n - 1) + 1 ≡ at + n = omega (arith, is.some) in
    rw sum at (IsCharBoundary-after_ascii text (at + (n - 1)) utf8 within ascii)

-- a text with a reference stands for another: one with fewer ASCII bytes
pub unescaped_changes : (names : EntityNames) (in_table : Bool) (text : List ℕ) (at n : ℕ) (cs : List ℕ)
    → escape_or_entity names in_table (drop at text) ≡ Some (n, cs)
    → unescaped names in_table text
    ≡ take at text ++ (encode_utf8_all cs ++ unescaped names in_table (drop (at + n) text))
    → unescaped names in_table text ≡ text → ⊥
unescaped_changes names in_table text at n cs e is same =
    let found = reference_is names in_table (drop at text) (n, cs) e in
    let rest = unescaped names in_table (drop (at + n) text) in
    let parts : count_ascii text ≡ count_ascii (take at text) + (count_ascii (encode_utf8_all cs) + count_ascii rest) =
    ap count_ascii (sym same ∙ is) ∙ (count-append (take at text) (encode_utf8_all cs ++ rest)
    ∙ ap (λ x. count_ascii (take at text) + x) (count-append (encode_utf8_all cs) rest)) in
    omega (
      arith,
      found.fewer,
      parts,
      past_fewer names in_table 0 (drop (at + n) text),
      parted at text,
      parted n (drop at text),
      ap count_ascii (drop-drop n at text),
    )

-- what a reference is, from its characters in UTF-8
pub found_as : (found : Option (ℕ × List ℕ)) (n : ℕ) (text : List ℕ) → Some (n, text) ≡ option_map in_utf8 found
    → (cs : List ℕ) × (found ≡ Some (n, cs)) × (text ≡ encode_utf8_all cs)
found_as None n text e = cc
found_as (Some r) n text e =
    let same = same_Some (n, text) (in_utf8 r) e in
    (r.1, ap (λ (m : ℕ). Some (m, r.1)) (sym (ap (λ (x : ℕ × List ℕ). x.0) same)), ap (λ (x : ℕ × List ℕ). x.1) same)

pub found_none : (found : Option (ℕ × List ℕ)) → None ≡ option_map in_utf8 found → found ≡ None
found_none None e = refl
found_none (Some r) e = cc
