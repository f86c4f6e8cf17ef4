-- A copy that replaces bytes: the bytes since the last replacement wait to be copied as one slice.
use Rattle.std.proofs.Common.{◌≡◌, ◌++◌, ◌<◌, ◌≤◌, ◌+◌, ◌-◌, ℕ, List, [], ◌∷◌, length, take, drop, get_or, refl, sym}
use Rattle.std.proofs.Common.{ap, ◌∙◌, append_assoc, append-nil, arith, length-drop, ◌⊎◌, inl, inr, true, false}
use Rattle.std.specs.List.{flat_map, list_all}
use Rattle.std.specs.Str.{IsUtf8, IsCharBoundary}
use Rattle.std.proofs.lemmas.List.{take_more, flat_map_more, get_or-drop, take-append-drop}
use Rattle.std.proofs.lemmas.List.Concat.{flat_map-append}
use Rattle.std.proofs.lemmas.Str.{IsCharBoundary-before_ascii, IsCharBoundary-after_ascii}
use Rattle.std.proofs.lemmas.Bool.{and_parts, cases_eq, ne_eqb}
use Rattle.markdown_base.specs.Bytes.{ampersand, apostrophe}
use Rattle.markdown_out.specs.ByteLists.{AppendsPrefix}
use Rattle.markdown_out.specs.Escapes.{destination_byte, destination_escaped, is_kept_byte}

-- the bytes from one place to another
abbrev pub slice : ℕ → ℕ → List ℕ → List ℕ
slice from to bytes = take (to - from) (drop from bytes)

-- what was written, and the slice that waits, are the bytes so far, each replaced; `done` was
-- written
pub record Copied (f : ℕ → List ℕ) (out old bytes : List ℕ) (from to : ℕ) : Type 0 where
  pub done : List ℕ
  pub stands : out ≡ old ++ done
  pub is : done ++ slice from to bytes ≡ flat_map f (take to bytes)

pub Copied-none : (f : ℕ → List ℕ) (old bytes : List ℕ) → Copied f old old bytes 0 0
Copied-none f old bytes = record { done = []; stands = sym (append-nil old); is = refl }

-- one more byte in the slice
pub slice_more : (bytes : List ℕ) (from to : ℕ) → from ≤ to → to < length bytes
    → slice from (to + 1) bytes ≡ slice from to bytes ++ get_or bytes to 0 ∷ []
slice_more bytes from to h k =
    let n : to + 1 - from ≡ (to - from) + 1 = omega arith in
    let m : from + (to - from) ≡ to = omega arith in
    let l : to - from < length (drop from bytes) = omega (arith, length-drop from bytes) in
    ap (λ i. take i (drop from bytes)) n ∙ (take_more (drop from bytes) (to - from) 0 l
    ∙ ap (λ b. take (to - from) (drop from bytes) ++ b ∷ []) (get_or-drop from bytes (to - from) 0
    ∙ ap (λ i. get_or bytes i 0) m))

-- one more byte, replaced
pub replaced_more : (f : ℕ → List ℕ) (bytes : List ℕ) (to : ℕ) → to < length bytes
    → flat_map f (take (to + 1) bytes) ≡ flat_map f (take to bytes) ++ f (get_or bytes to 0)
replaced_more f bytes to h = ap (flat_map f) (take_more bytes to 0 h)
    ∙ sym (flat_map_more f [] (take to bytes) (get_or bytes to 0))

-- a byte that is not replaced waits
pub Copied-keep : (f : ℕ → List ℕ) (out old bytes : List ℕ) (from to : ℕ) → from ≤ to
    → to < length bytes → f (get_or bytes to 0) ≡ get_or bytes to 0 ∷ []
    → Copied f out old bytes from to → Copied f out old bytes from (to + 1)
Copied-keep f out old bytes from to h k e c = record {
  done = c.done;
  stands = c.stands;
  is =
      ap (λ x. c.done ++ x) (slice_more bytes from to h k)
      ∙ (sym (append_assoc c.done (slice from to bytes) (get_or bytes to 0 ∷ []))
      ∙ (ap (λ x. x ++ get_or bytes to 0 ∷ []) c.is ∙ (ap (λ x. flat_map f (take to bytes)
      ++ x) (sym e) ∙ sym (replaced_more f bytes to k))));
}

-- the slice and a replacement are written
pub Copied-write : (f : ℕ → List ℕ) (out out' old bytes : List ℕ) (from to : ℕ) → to < length bytes
    → out' ≡ (out ++ slice from to bytes) ++ f (get_or bytes to 0) → Copied f out old bytes from to
    → Copied f out' old bytes (to + 1) (to + 1)
Copied-write f out out' old bytes from to k w c =
    let z : (to + 1) - (to + 1) ≡ 0 = omega arith in record {
      done = flat_map f (take (to + 1) bytes);
      stands = w ∙ (ap (λ x. (x ++ slice from to bytes) ++ f (get_or bytes to 0)) c.stands
          ∙ (ap (λ x. x ++ f (get_or bytes to 0)) (append_assoc old c.done (slice from to bytes))
          ∙ (append_assoc old (c.done ++ slice from to bytes) (f (get_or bytes to 0))
          ∙ ap (λ x. old ++ x) (ap (λ x. x ++ f (get_or bytes to 0)) c.is
          ∙ sym (replaced_more f bytes to k)))));
      is = ap (λ n. flat_map f (take (to + 1) bytes) ++ take n (drop (to + 1) bytes)) z
          ∙ append-nil (flat_map f (take (to + 1) bytes));
    }

-- the bytes so far and those to come, replaced
replaced_parts : (f : ℕ → List ℕ) (bytes : List ℕ) (to : ℕ)
    → flat_map f (take to bytes) ++ flat_map f (drop to bytes) ≡ flat_map f bytes
replaced_parts f bytes to = sym (flat_map-append f (take to bytes) (drop to bytes))
    ∙ ap (flat_map f) (take-append-drop to bytes)

-- what was written is a prefix while a slice waits
pub prefix-waiting : (f : ℕ → List ℕ) (out out' old bytes : List ℕ) (from to : ℕ) → out' ≡ out
    → Copied f out old bytes from to → AppendsPrefix old out' (flat_map f bytes)
prefix-waiting f out out' old bytes from to e c = record {
  prefix = c.done;
  missing = slice from to bytes ++ flat_map f (drop to bytes);
  stands = e ∙ c.stands;
  whole = sym (append_assoc c.done (slice from to bytes) (flat_map f (drop to bytes)))
      ∙ (ap (λ x. x ++ flat_map f (drop to bytes)) c.is ∙ replaced_parts f bytes to);
}

-- and once the slice is written
pub prefix-written : (f : ℕ → List ℕ) (out out' old bytes : List ℕ) (from to : ℕ)
    → out' ≡ out ++ slice from to bytes → Copied f out old bytes from to
    → AppendsPrefix old out' (flat_map f bytes)
prefix-written f out out' old bytes from to e c = record {
  prefix = flat_map f (take to bytes);
  missing = flat_map f (drop to bytes);
  stands = e ∙ (ap (λ x. x ++ slice from to bytes) c.stands
      ∙ (append_assoc old c.done (slice from to bytes) ∙ ap (λ x. old ++ x) c.is));
  whole = replaced_parts f bytes to;
}

-- places that a slice of kept bytes begins and ends at
pub record Cuts (bytes : List ℕ) (from to : ℕ) : Type 0 where
  pub start : from < to → IsCharBoundary bytes from
  pub end : from < to → IsCharBoundary bytes to

pub Cuts-none : (bytes : List ℕ) (to : ℕ) → Cuts bytes to to
Cuts-none bytes to = record { start = λ h. absurd (omega arith); end = λ h. absurd (omega arith) }

-- one more kept byte is ASCII
pub Cuts-keep : (bytes : List ℕ) (from to : ℕ) → IsUtf8 bytes → from ≤ to → to < length bytes
    → get_or bytes to 0 < 128 → Cuts bytes from to → Cuts bytes from (to + 1)
Cuts-keep bytes from to u h k a c = record {
  start = λ l. start_at (below_or from to h);
  end = λ l. IsCharBoundary-after_ascii bytes to u k a;
}
  where
    below_or : (i j : ℕ) → i ≤ j → (i < j) ⊎ (i ≡ j)
    below_or i j l = grind arith

    start_at : (from < to) ⊎ (from ≡ to) → IsCharBoundary bytes from
    start_at (inl l) = c.start l
    start_at (inr e) = let k' : from < length bytes = omega arith in
        let a' : get_or bytes from 0 < 128 = rw e a in IsCharBoundary-before_ascii bytes from k' a'

-- a byte that a destination keeps is written as it is
kept_stays : (byte : ℕ) → is_kept_byte byte ≡ true → destination_byte byte ≡ byte ∷ []
kept_stays byte kept = elim (cases_eq byte ampersand) [
  | inl same ↦ absurd (no_mark (rw same at kept))
  | inr other ↦ elim (cases_eq byte apostrophe) [
    | inl same ↦ absurd (no_mark (rw same at kept))
    | inr neither ↦ rw (ne_eqb byte ampersand other, ne_eqb byte apostrophe neither, kept) refl
  ]
]
  where
    no_mark : false ≡ true → ⊥
    no_mark h = cc

-- bytes that a destination keeps are written as they are
pub all_kept : (bytes : List ℕ) → list_all is_kept_byte bytes ≡ true → destination_escaped bytes ≡ bytes
all_kept [] kept = refl
all_kept (b ∷ bytes) kept =
    let parts = and_parts (is_kept_byte b) (list_all is_kept_byte bytes) kept in
    rw (kept_stays b parts.0, all_kept bytes parts.1) refl
