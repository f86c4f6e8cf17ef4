-- What a label is read from, case by case. None is longer than those bytes, and so a block that ends before a `]` has
-- no label up to it.
use Rattle.std.proofs.Common.{◌≡◌, ℕ, zero, suc, ◌+◌, ◌-◌, ◌<◌, ◌≤◌, Bool, true, false, ◌==◌, List, [], ◌∷◌, Option}
use Rattle.std.proofs.Common.{Some, None, length, refl, ap, arith, take, drop, if◌then◌else◌, is_none, unwrap_or}
use Rattle.std.proofs.Common.{IfSome, length-drop}
use Rattle.std.specs.Prelude.{option_and_then, slice_range}
use Rattle.std.specs.Option.{option_map, option_or}
use Rattle.std.proofs.lemmas.Bool.Decides.{nat_tests}
use Rattle.std.proofs.lemmas.List.{length-take}
use Rattle.markdown_base.specs.Bytes.{backslash}
use Rattle.markdown_scan.specs.Backslash.{is_bare}
use Rattle.markdown_scan.specs.Label.{refused, body, fits_label, label_bytes, link_label, put_before, shown}
use Rattle.markdown_scan.specs.Label.{collapse_whitespace, with_shown}
use Rattle.markdown_scan.specs.LinePrefix.{prefix_after}
use Rattle.markdown_brackets.specs.Reference.{FoundLabel, footnote_label_in, label_after, label_after_bracket}
use Rattle.markdown_brackets.specs.Reference.{bracket_label, label_past, of_length, on_one_line, own_label}
use Rattle.markdown_brackets.specs.declared.footnote.FootnoteStyle.{FootnoteStyle}
use Rattle.markdown_brackets.specs.declared.footnote.FootnoteStyle.TheVariants as style

-- what was found lies in the first n bytes
StandsIn : ℕ → Option (ℕ × List ℕ) → Type 0
StandsIn size found = IfSome found (λ f. f.0 < size)

one_more : (size : ℕ) (text : List ℕ) (found : Option (ℕ × List ℕ)) → StandsIn size found
    → StandsIn (suc size) (put_before 1 text found)
unfolding StandsIn
one_more size text None h = tt
one_more size text (Some f) h = omega (arith, h)

body_stands : (skipped : List ℕ → Option ℕ) (escaped : Bool) (n : ℕ) (bytes : List ℕ)
    → StandsIn (length bytes) (body escaped (label_bytes skipped n bytes))
unfolding StandsIn
body_stands skipped escaped zero [] = tt
body_stands skipped escaped (suc n) [] = tt
body_stands skipped escaped (suc n) (b ∷ bytes) =
    one_more (length bytes) [] (body escaped (label_bytes skipped n bytes)) (body_stands skipped escaped n bytes)
body_stands skipped escaped zero (b ∷ bytes) =
    by (is_bare escaped b 93) (is_bare escaped b 91) (prefix_after skipped b bytes)
    (λ n. body_stands skipped later n bytes)
  where
    later : Bool
    later = is_bare escaped b backslash

    by : (closes opens : Bool) (prefix : Option ℕ)
        → ((n : ℕ) → StandsIn (length bytes) (body later (label_bytes skipped n bytes)))
        → StandsIn (suc (length bytes)) (if closes then Some (0, []) else if opens then None
        else put_before 1 (b ∷ [])
        (body later (if is_none prefix then refused ∷ [] else label_bytes skipped (unwrap_or prefix 0) bytes)))
    by true opens prefix h = omega arith
    by false true prefix h = tt
    by false false None h = tt
    by false false (Some n) h = one_more (length bytes) (b ∷ []) (body later (label_bytes skipped n bytes)) (h n)

-- a label has at most n bytes, and at least one
pub Fits : ℕ → FoundLabel → Type 0
Fits size l = (0 < l.length) × (l.length ≤ size)

-- what a label is read from, after so many bytes before those
pub record IsRead (skipped : List ℕ → Option ℕ) (before : ℕ) (bytes : List ℕ) (l : FoundLabel) : Type 0 where
  pub place : ℕ
  pub text : List ℕ
  pub closes : body false (label_bytes skipped 0 bytes) ≡ Some (place, text)
  pub long : l.length ≡ before + place + 1

read_fits : (before size : ℕ) (skipped : List ℕ → Option ℕ) (bytes : List ℕ) (l : FoundLabel)
    → IsRead skipped before bytes l → before + length bytes ≤ size → Fits size l
unfolding StandsIn Fits
read_fits before size skipped bytes l r within =
    let inside : r.place < length bytes = rw r.closes at (body_stands skipped false 0 bytes) in
    (omega (arith, r.long), omega (arith, r.long, inside, within))

-- a footnote's label fits
abbrev IsFootnote : ℕ → FoundLabel → Type 0
IsFootnote size l = (l.is_footnote ≡ true) × Fits size l

-- a label from this byte on fits, and if it is no footnote's, it is read after a `[`
abbrev pub ReadsAfter : (List ℕ → Option ℕ) → ℕ → List ℕ → FoundLabel → Type 0
ReadsAfter skipped b bytes l =
    Fits (suc (length bytes)) l × (l.is_footnote ≡ false → ((b == 91) ≡ true) × IsRead skipped 1 bytes l)

if_also : {X : Type 0} {P Q : X → Type 0} (o : Option X) → IfSome o P → ((x : X) → P x → Q x) → IfSome o Q
if_also None h k = tt
if_also (Some x) h k = k x h

module _ (in_table : Bool) where
  abbrev squeezed : ℕ × List ℕ → ℕ × List ℕ
  squeezed f = (f.0 + 1, collapse_whitespace false false f.1)

  abbrev if_fits : ℕ × List ℕ → Option (ℕ × List ℕ)
  if_fits f = if fits_label f.1 then Some f else None

  link_read : (is_footnote : Bool) (before : ℕ) (skipped : List ℕ → Option ℕ) (bytes : List ℕ)
      → IfSome (label_past is_footnote before (link_label skipped in_table bytes))
      (λ l. (l.is_footnote ≡ is_footnote) × IsRead skipped before bytes l)
  link_read is_footnote before skipped bytes = by (body false (label_bytes skipped 0 bytes)) refl
    where
      by : (found : Option (ℕ × List ℕ)) → body false (label_bytes skipped 0 bytes) ≡ found
          → IfSome (label_past is_footnote before
          (option_map squeezed (option_and_then if_fits (with_shown in_table found))))
          (λ l. (l.is_footnote ≡ is_footnote) × IsRead skipped before bytes l)
      by None e = tt
      by (Some f) e = fitting (fits_label (shown in_table f.1))
        where
          fitting : (fits : Bool)
              → IfSome (label_past is_footnote before
              (option_map squeezed (if fits then Some (f.0, shown in_table f.1) else None)))
              (λ l. (l.is_footnote ≡ is_footnote) × IsRead skipped before bytes l)
          fitting true = (refl, record { place = f.0; text = f.1; closes = e; long = omega arith })
          fitting false = tt

  caret_read : (skipped : List ℕ → Option ℕ) (bytes : List ℕ)
      → IfSome (label_past true 2 (label_after 94 skipped in_table bytes)) (IsFootnote (suc (length bytes)))
  caret_read skipped [] = tt
  caret_read skipped (b ∷ bytes) = by (b == 94)
    where
      by : (is : Bool) → IfSome
          (label_past true 2 (option_and_then (link_label skipped in_table) (if is then Some bytes else None)))
          (IsFootnote (suc (suc (length bytes))))
      by true = if_also (label_past true 2 (link_label skipped in_table bytes)) (link_read true 2 skipped bytes)
          (λ l h. (h.0, read_fits 2 (suc (suc (length bytes))) skipped bytes l h.1 (omega arith)))
      by false = tt

  footnote_read : (s : FootnoteStyle) (skipped : List ℕ → Option ℕ) (bytes : List ℕ)
      → IfSome (footnote_label_in s skipped in_table bytes) (IsFootnote (suc (length bytes)))
  footnote_read style.Off skipped bytes = tt
  footnote_read style.Gfm skipped bytes = caret_read on_one_line bytes
  footnote_read style.Old skipped bytes = caret_read skipped bytes

  pub label_read : (s : FootnoteStyle) (skipped : List ℕ → Option ℕ) (b : ℕ) (bytes : List ℕ)
      → IfSome (bracket_label s skipped in_table (b ∷ bytes)) (ReadsAfter skipped b bytes)
  label_read s skipped b bytes = by (b == 91) refl
    where
      or_link : (b == 91) ≡ true → (found : Option FoundLabel) → IfSome found (IsFootnote (suc (length bytes)))
          → IfSome (option_or found (label_past false 1 (link_label skipped in_table bytes)))
          (ReadsAfter skipped b bytes)
      or_link is None h = if_also (label_past false 1 (link_label skipped in_table bytes))
          (link_read false 1 skipped bytes)
          (λ l h. (read_fits 1 (suc (length bytes)) skipped bytes l h.1 (omega arith), λ e. (is, h.1)))
      or_link is (Some l) h = (h.1, λ e. absurd (let footnote = h.0 in cc))

      by : (opens : Bool) → (b == 91) ≡ opens → IfSome
          (option_and_then (label_after_bracket s skipped in_table) (if opens then Some bytes else None))
          (ReadsAfter skipped b bytes)
      by true is = or_link is (footnote_label_in s skipped in_table bytes) (footnote_read s skipped bytes)
      by false is = tt

  label_fits : (s : FootnoteStyle) (skipped : List ℕ → Option ℕ) (bytes : List ℕ)
      → IfSome (bracket_label s skipped in_table bytes) (Fits (length bytes))
  label_fits s skipped [] = tt
  label_fits s skipped (b ∷ bytes) =
      if_also (bracket_label s skipped in_table (b ∷ bytes)) (label_read s skipped b bytes) (λ l h. h.0)

  pub no_label_past_block : (s : FootnoteStyle) (skipped : List ℕ → Option ℕ) (text : List ℕ) (block_end start end : ℕ)
      → block_end < end
      → own_label s skipped in_table (take block_end text) start end ≡ None
  unfolding Fits
  no_label_past_block s skipped text block_end start end past =
      by (bracket_label s skipped in_table bytes) (label_fits s skipped bytes)
    where
      bytes : List ℕ
      bytes = slice_range (take block_end text) start end

      size : length bytes ≤ block_end - start
      size = omega (
        arith,
        length-take (end - start) (drop start (take block_end text)),
        length-drop start (take block_end text),
        length-take block_end text,
      )

      by : (found : Option FoundLabel) → IfSome found (Fits (length bytes)) → of_length (end - start) found ≡ None
      by None h = refl
      by (Some l) h =
          let some = h.0 in
          let most : l.length ≤ block_end - start = omega (arith, h.1, size) in
          let other : (l.length == end - start) ≡ false = grind (arith, nat_tests) in
          ap (λ (b : Bool). if b then Some l else None) other
