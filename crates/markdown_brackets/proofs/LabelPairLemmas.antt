-- In a link label no `[` is directly after a `]`: one of the two would end the label, or forbid it. So no two labels
-- end at the same byte offset if the second begins directly after a `]` in the first.
use Rattle.std.proofs.Common.{◌≡◌, ℕ, zero, suc, ◌+◌, ◌-◌, ◌<◌, Bool, true, false, List, [], ◌∷◌, Option, Some, None}
use Rattle.std.proofs.Common.{length, refl, sym, ap, subst, ◌∙◌, arith, take, drop, get_or, drop-cons, length-drop}
use Rattle.std.proofs.Common.{if◌then◌else◌, is_none, unwrap_or, nat_eq}
use Rattle.std.specs.List.{list_any}
use Rattle.std.proofs.lemmas.Bool.Decides.{nat_tests}
use Rattle.std.proofs.lemmas.List.{drop-drop}
use Rattle.std.proofs.lemmas.Option.{none-some, same_Some}
use Rattle.markdown_base.specs.Bytes.{backslash}
use Rattle.markdown_base.proofs.BoolLemmas.{or_second}
use Rattle.markdown_scan.specs.Backslash.{is_bare}
use Rattle.markdown_scan.specs.Label.{refused, body, label_bytes, put_before}
use Rattle.markdown_scan.specs.LinePrefix.{ends_line, prefix_after}
use Rattle.markdown_brackets.specs.QuestionEnds.{HoldsNoOpener}
use Rattle.markdown_brackets.specs.Reference.{FoundLabel, bracket_label}
use Rattle.markdown_brackets.specs.declared.footnote.FootnoteStyle.{FootnoteStyle}
use Rattle.markdown_brackets.proofs.LabelLengthLemmas.{label_read}

-- the first n bytes are a prefix that contains no `[`, and nothing is escaped after a line ending
record IsAfter (escaped : Bool) (n : ℕ) (bytes : List ℕ) : Type 0 where
  free : list_any (nat_eq 91) (take n bytes) ≡ false
  bare : 0 < n → escaped ≡ false

-- what was found, one byte earlier
record Found (o : Option (ℕ × List ℕ)) (k : ℕ) : Type 0 where
  place : ℕ
  text : List ℕ
  found : o ≡ Some (place, text)
  after : k ≡ suc place

one_more : (x : List ℕ) (o : Option (ℕ × List ℕ)) (k : ℕ) (text : List ℕ) → put_before 1 x o ≡ Some (k, text)
    → Found o k
one_more x None k text e = absurd (none-some (k, text) e)
one_more x (Some f) k text e =
    let same = ap (λ (p : ℕ × List ℕ). p.0) (same_Some (1 + f.0, _) (k, text) e) in
    record { place = f.0; text = f.1; found = refl; after = omega (arith, same) }

-- a line ending is no backslash
no_backslash : (escaped : Bool) (b : ℕ) (bytes : List ℕ) → ends_line b bytes ≡ true → is_bare escaped b backslash
    ≡ false
no_backslash true b bytes h = refl
no_backslash false b bytes h = grind (arith, nat_tests)

-- each line continues after its prefix
abbrev skipping : (List ℕ → ℕ) → List ℕ → Option ℕ
skipping skipped bytes = Some (skipped bytes)

module _ (skipped : List ℕ → ℕ) (none : HoldsNoOpener skipped) where
  -- no label goes on at a `[` that is not escaped
  opens_none : (n : ℕ) (rest : List ℕ) → list_any (nat_eq 91) (take n (91 ∷ rest)) ≡ false
      → body false (label_bytes (skipping skipped) n (91 ∷ rest)) ≡ None
  opens_none zero rest h = refl
  opens_none (suc n) rest h = absurd (cc h)

  pair_here : (escaped : Bool) (n : ℕ) (rest : List ℕ) (k : ℕ) (text : List ℕ) → IsAfter escaped n (93 ∷ 91 ∷ rest)
      → body escaped (label_bytes (skipping skipped) n (93 ∷ 91 ∷ rest)) ≡ Some (k, text) → 1 < k → ⊥
  pair_here true zero rest k text h e l = none-some (k, text) e
  pair_here false zero rest k text h e l =
      let same = ap (λ (p : ℕ × List ℕ). p.0) (same_Some (0, []) (k, text) e) in
      absurd (omega (arith, same, l))
  pair_here true (suc n) rest k text h e l = absurd (cc (h.bare (omega arith)))
  pair_here false (suc n) rest k text h e l =
      let later = one_more [] (body false (label_bytes (skipping skipped) n (91 ∷ rest))) k text e in
      none-some (later.place, later.text)
      (subst (λ o. o ≡ Some (later.place, later.text)) (opens_none n rest h.free) later.found)

  -- after a byte, and the prefix that follows it
  byte_after_prefix : (escaped : Bool) (b : ℕ) (bytes : List ℕ) (m : ℕ) → prefix_after
      (skipping skipped) b bytes ≡ Some m
      → IsAfter (is_bare escaped b backslash) m bytes
  byte_after_prefix escaped b bytes m e = by (ends_line b bytes) refl e
    where
      by : (ends : Bool) → ends_line b bytes ≡ ends → (if ends then skipping skipped bytes else Some 0) ≡ Some m
          → IsAfter (is_bare escaped b backslash) m bytes
      by true line e = record {
        free = subst (λ n. list_any (nat_eq 91) (take n bytes) ≡ false) (same_Some (skipped bytes) m e) (none bytes);
        bare = λ l. no_backslash escaped b bytes line;
      }
      by false line e =
          let same = same_Some 0 m e in
          subst (λ m. IsAfter (is_bare escaped b backslash) m bytes) same
          (record { free = refl; bare = λ l. absurd (omega (arith, l)) })

  -- what is found from a byte on, if it is not found at that byte, is found after it
  abbrev IsPast : (later : Bool) → List ℕ → ℕ → Type 0
  IsPast later bytes k = (m : ℕ) × IsAfter later m bytes × Found (body later (label_bytes (skipping skipped) m bytes)) k

  past_byte : (escaped : Bool) (b : ℕ) (bytes : List ℕ) (k : ℕ) (text : List ℕ)
      → body escaped (label_bytes (skipping skipped) 0 (b ∷ bytes)) ≡ Some (k, text) → 0 < k
      → IsPast (is_bare escaped b backslash) bytes k
  past_byte escaped b bytes k text e l = by (is_bare escaped b 93) (is_bare escaped b 91)
      (prefix_after (skipping skipped) b bytes) refl e
    where
      later : Bool
      later = is_bare escaped b backslash

      by : (closes opens : Bool) (o : Option ℕ) → prefix_after (skipping skipped) b bytes ≡ o
          → (if closes then Some (0, []) else if opens then None
          else put_before 1 (b ∷ [])
          (body later (if is_none o then refused ∷ [] else label_bytes (skipping skipped) (unwrap_or o 0) bytes)))
          ≡ Some (k, text) → IsPast later bytes k
      by true opens o f e = let same = ap (λ (p : ℕ × List ℕ). p.0) (same_Some (0, []) (k, text) e) in absurd
          (omega (arith, same, l))
      by false true o f e = absurd (none-some (k, text) e)
      by false false None f e = absurd (none-some (k, text) e)
      by false false (Some m) f e = (
        m,
        byte_after_prefix escaped b bytes m f,
        one_more (b ∷ []) (body later (label_bytes (skipping skipped) m bytes)) k
            text e,
      )

  no_pair : (i : ℕ) (escaped : Bool) (n : ℕ) (bytes rest : List ℕ) (k : ℕ) (text : List ℕ) → IsAfter escaped n bytes
      → body escaped (label_bytes (skipping skipped) n bytes) ≡ Some (k, text) → suc i < k → drop i bytes ≡ 93 ∷ 91
      ∷ rest
      → ⊥
  no_pair zero escaped n bytes rest k text h e l d =
      let here = subst (λ xs. body escaped (label_bytes (skipping skipped) n xs) ≡ Some (k, text)) d e in
      pair_here escaped n rest k text (subst (IsAfter escaped n) d h) here l
  no_pair (suc i) escaped n [] rest k text h e l d = absurd (cc d)
  no_pair (suc i) escaped (suc n) (b ∷ bytes) rest k text h e l d =
      let later = one_more [] (body escaped (label_bytes (skipping skipped) n bytes)) k text e in
      let free = or_second (nat_eq 91 b) (list_any (nat_eq 91) (take n bytes)) h.free in
      let skipping : IsAfter escaped n bytes = record { free = free; bare = λ l. h.bare (omega arith) } in
      no_pair i escaped n bytes rest later.place later.text skipping later.found (omega (arith, l, later.after)) d
  no_pair (suc i) escaped zero (b ∷ bytes) rest k text h e l d =
      let r = past_byte escaped b bytes k text e (omega (arith, l)) in
      no_pair i (is_bare escaped b backslash) r.0 bytes rest r.2.place r.2.text r.1 r.2.found
      (omega (arith, l, r.2.after)) d

-- in a text a link label begins at one byte, and ends before another
pub record IsLabelFrom (skipped : List ℕ → Option ℕ) (text : List ℕ) (from to : ℕ) : Type 0 where
  pub tail : List ℕ
  pub opens : drop from text ≡ 91 ∷ tail
  pub place : ℕ
  pub shown : List ℕ
  pub closes : body false (label_bytes skipped 0 tail) ≡ Some (place, shown)
  pub ends : to ≡ from + place + 2

-- a label that is no footnote's
pub label_from : (skipped : List ℕ → Option ℕ) (in_table : Bool) (s : FootnoteStyle) (text : List ℕ) (from : ℕ)
    (l : FoundLabel) → bracket_label s skipped in_table (drop from text) ≡ Some l → l.is_footnote ≡ false
    → IsLabelFrom skipped text from (from + l.length)
label_from skipped in_table s text from l e plain = by (drop from text) refl e
  where
    by : (bytes : List ℕ) → drop from text ≡ bytes → bracket_label s skipped in_table bytes ≡ Some l
        → IsLabelFrom skipped text from (from + l.length)
    by [] d e = absurd (none-some l e)
    by (b ∷ bytes) d e =
        let r = (rw e at (label_read in_table s skipped b bytes)).1 plain in
        let is = r.0 in
        let byte : b ≡ 91 = grind (arith, nat_tests) in
        record {
          tail = bytes;
          opens = d ∙ ap (λ (b : ℕ). b ∷ bytes) byte;
          place = r.1.place;
          shown = r.1.text;
          closes = r.1.closes;
          ends = omega (arith, r.1.long);
        }

-- the byte that a label begins with
pub first_byte : (skipped : List ℕ → Option ℕ) (text : List ℕ) (from to : ℕ) → IsLabelFrom skipped text from to
    → (from < length text) × (get_or text from 0 ≡ 91)
first_byte skipped text from to label =
    let size = ap length label.opens in
    let within : from < length text = omega (arith, size, length-drop from text) in
    let here = sym (drop-cons text from 0 within) ∙ label.opens in
    (within, ap (λ (xs : List ℕ). get_or xs 0 0) here)

-- a `[` and a `]` are at two byte offsets
not_next : (text : List ℕ) (from later : ℕ) → get_or text from 0 ≡ 91 → get_or text (later - 1) 0 ≡ 93 → later
    ≡ suc from → ⊥
not_next text from later opens closes e =
    let place : later - 1 ≡ from = omega (arith, e) in
    let same : get_or text (later - 1) 0 ≡ get_or text from 0 = ap (λ (i : ℕ). get_or text i 0) place in
    absurd (omega (arith, opens, closes, same))

-- if two labels end together, the second does not begin directly after a `]`
pub labels_apart : (skipped : List ℕ → ℕ) → HoldsNoOpener skipped → (text : List ℕ) (from later to : ℕ)
    → IsLabelFrom (skipping skipped) text from to → IsLabelFrom (skipping skipped) text later to → from < later
    → get_or text (later - 1) 0 ≡ 93 → ⊥
labels_apart skipped none text from later to first second l byte =
    let one = first_byte (skipping skipped) text from to first in
    let two = first_byte (skipping skipped) text later to second in
    let apart = not_next text from later one.1 byte in
    let i : ℕ = later - from - 2 in
    let here : (from + 1) + i ≡ later - 1 = omega (arith, apart, l) in
    let next : suc (later - 1) ≡ later = omega (arith, l) in
    let tail : drop (from + 1) text ≡ first.tail = sym (drop-drop 1 from text) ∙ ap (drop 1) first.opens in
    let at : drop i first.tail ≡ 93 ∷ 91 ∷ second.tail =
    ap (drop i) (sym tail) ∙ drop-drop i (from + 1) text ∙ ap (λ (n : ℕ). drop n text) here
    ∙ drop-cons text (later - 1) 0 (omega (arith, two.0)) ∙ ap (λ (b : ℕ). b ∷ drop (suc (later - 1)) text) byte
    ∙ ap (λ (n : ℕ). 93 ∷ drop n text) next ∙ ap (λ (xs : List ℕ). 93 ∷ xs) second.opens in
    no_pair skipped none i false 0 first.tail second.tail first.place first.shown
    (record { free = refl; bare = λ l. refl }) first.closes
    (omega (arith, first.ends, second.ends, here, next, l)) at
