-- What is taken off the lines of a text where it is cut at its first line break.
use Rattle.std.proofs.Common.{◌≡◌, ◌∙◌, ℕ, zero, suc, ◌<◌, List, [], ◌∷◌, ◌++◌, Bool, true, false, sym, ap, arith}
use Rattle.std.proofs.Common.{length, take, drop, chars, encode_utf8, IsUtf8, Option, Some, None, MatchOption, get_or}
use Rattle.std.proofs.Common.{◌==◌, lit<}
use Rattle.std.specs.List.{All}
use Rattle.std.specs.Str.{NonePass, NoCharPasses}
use Rattle.std.specs.Str.Pattern.{FindsBy, HasCharAt, IsSplitAtFirstMatch}
use Rattle.std.proofs.lemmas.Bool.{eqb-true}
use Rattle.markdown_base.specs.Bytes.{carriage_return, line_feed}
use Rattle.std.proofs.lemmas.List.{length-drop, take-append-drop}
use Rattle.std.proofs.lemmas.List.Splits.{slice_split_at, slice_split_none}
use Rattle.std.proofs.lemmas.Str.{IsCharBoundary-before_ascii, IsUtf8-drop, IsUtf8-past_char, IsUtf8-take, chars-append}
use Rattle.std.proofs.lemmas.Str.{chars_from_encodes, chars_past_char, encode_ascii, len_utf8_bounds}
use Rattle.markdown_page.specs.MetadataTitle.{first_title_text, is_line_break, metadata_lines}
use Rattle.markdown_base.specs.declared.tag.MetadataBlockKind.{MetadataBlockKind}
use Rattle.markdown_base.proofs.BoolLemmas.{by_test}

-- the lines that are left, where any are
abbrev pub lines_left : (more : Bool) → List ℕ → List (List ℕ)
lines_left true text = metadata_lines (chars text)
lines_left false text = []

-- a list of which no element passes
pub all-from_none : (p : ℕ → Bool) (cs : List ℕ) → NonePass p cs → All (λ c. p c ≡ false) cs
all-from_none p [] none k d within = absurd (omega (arith, within))
all-from_none p (c ∷ cs) none zero d within = none.0
all-from_none p (c ∷ cs) none (suc k) d within = all-from_none p cs none.1 k d (omega (arith, within))

-- the characters of a text without a line break
pub all_others : (text : List ℕ) → IsUtf8 text → NoCharPasses is_line_break text
    → All (λ c. is_line_break c ≡ false) (chars text)
all_others text utf8 none =
    rw (sym (chars_from_encodes none.0 text utf8 none.1)) (all-from_none is_line_break none.0 none.2)

-- a line break is ASCII
pub break_ascii : (c : ℕ) → is_line_break c ≡ true → c < 128
break_ascii c breaks =
    by_test (c == line_feed) (λ same. rw (eqb-true _ _ same) (lit< tt))
    (λ other. let same : (c == carriage_return) ≡ true = rw other at breaks in rw (eqb-true _ _ same) (lit< tt))

module _ (text : List ℕ) (utf8 : IsUtf8 text) (i j c : ℕ) (breaks : is_line_break c ≡ true)
    (at : HasCharAt c text i j) where
  -- the line break is one byte
  pub byte_there : get_or text i 0 ≡ c
  byte_there = at.byte (break_ascii c breaks)

  pub in_text : i < length text
  in_text = by_length (ap length at.split)
    where
      by_length : length (drop i text) ≡ length (encode_utf8 c ++ drop j text) → i < length text
      by_length e =
          let one : encode_utf8 c ≡ c ∷ [] = encode_ascii c (break_ascii c breaks) in
          let more : length (drop i text) ≡ suc (length (drop j text)) = e ∙ ap (λ l. length (l ++ drop j text)) one in
          omega (arith, length-drop i text, more)

  pub front_utf8 : IsUtf8 (take i text)
  front_utf8 =
      IsUtf8-take text i utf8
      (IsCharBoundary-before_ascii text i in_text (rw byte_there (break_ascii c breaks)))

  pub from_utf8 : IsUtf8 (drop i text)
  from_utf8 =
      IsUtf8-drop text i utf8
      (IsCharBoundary-before_ascii text i in_text (rw byte_there (break_ascii c breaks)))

  pub rest_utf8 : IsUtf8 (drop j text)
  rest_utf8 = IsUtf8-past_char (drop i text) (drop j text) c from_utf8 at.split

  -- the characters of the text are those of a line, the line break, and those after it
  pub chars_round : chars text ≡ chars (take i text) ++ c ∷ chars (drop j text)
  chars_round =
      ap chars (sym (take-append-drop i text))
      ∙ chars-append (take i text) (drop i text) front_utf8
      ∙ ap (λ l. chars (take i text) ++ l) (chars_past_char (drop i text) (drop j text) c from_utf8 at.split)

-- the first line is taken off
pub lines-first : (text line rest : List ℕ) (more : Bool) → IsUtf8 text
    → IsSplitAtFirstMatch (FindsBy is_line_break) text line more rest
    → (metadata_lines (chars text) ≡ chars line ∷ lines_left more rest) × (more ≡ true → IsUtf8 rest)
lines-first text line rest more utf8 split = by_found split.1.0 split.1.1 split.1.2
  where
    by_found : (found : Option (ℕ × ℕ)) → FindsBy is_line_break text found
        → MatchOption found ((line ≡ text) × (more ≡ false))
        (λ q. 0 < q.1 → (line ≡ take q.0 text) × (more ≡ true) × (rest ≡ drop q.1 text))
        → (metadata_lines (chars text) ≡ chars line ∷ lines_left more rest) × (more ≡ true → IsUtf8 rest)
    by_found None none is =
        let lines : metadata_lines (chars text) ≡ chars text ∷ [] =
        slice_split_none is_line_break (chars text) (all_others text utf8 none) in
        (rw (is.0, is.1) lines, λ yes. let clash : true ≡ false = sym yes ∙ is.1 in cc)
    by_found (Some q) found is =
        let c = found.1.0 in
        let breaks = found.1.1 in
        let at = found.1.2 in
        let past : 0 < q.1 = omega (arith, at.ends, (len_utf8_bounds c).0) in
        let parts = is past in
        let lines : metadata_lines (chars text) ≡ chars (take q.0 text) ∷ metadata_lines (chars (drop q.1 text)) =
        ap metadata_lines (chars_round text utf8 q.0 q.1 c breaks at)
        ∙ slice_split_at is_line_break (chars (take q.0 text)) c (chars (drop q.1 text))
        (all_others (take q.0 text) (front_utf8 text utf8 q.0 q.1 c breaks at) found.0) breaks in (
          rw (parts.0, parts.1, parts.2) lines,
          λ _. rw parts.2 (rest_utf8 text utf8 q.0 q.1 c breaks at),
        )

-- the lines that are left give the same with the first one taken off
pub titles-first : (metadata : MetadataBlockKind) (text line rest : List ℕ) (had more : Bool) (whole : Option (List ℕ))
    → had ≡ true → (had ≡ true → IsUtf8 text) → IsSplitAtFirstMatch (FindsBy is_line_break) text line more rest
    → first_title_text metadata (lines_left had text) ≡ whole
    → first_title_text metadata (chars line ∷ lines_left more rest) ≡ whole
titles-first metadata text line rest had more whole has utf8 split same =
    ap (first_title_text metadata) (sym (lines-first text line rest more (utf8 has) split).0)
    ∙ ap (λ b. first_title_text metadata (lines_left b text)) (sym has)
    ∙ same
