-- What the ids that are given are made of: characters that anchors keep.
use Rattle.std.proofs.Common.{◌≡◌, ℕ, zero, suc, ◌+◌, ◌<◌, ◌/◌, ◌%◌, ◌==◌, ◌||◌, Bool, true, false, arith}
use Rattle.std.proofs.Common.{List, [], ◌∷◌, ◌++◌, length, get_or, refl, sym, ap, ◌∙◌, subst, codes, decimal, chars}
use Rattle.std.proofs.Common.{append-nil, encode_utf8, flat_map, inl, inr}
use Rattle.std.specs.Prelude.{All, encode_utf8_all}
use Rattle.std.specs.Char.{is_ascii_alphanumeric}
use Rattle.std.specs.Fmt.{digit_glyph, digits, digits_onto}
use Rattle.std.specs.List.{AllByRecursion, list_all}
use Rattle.std.specs.StrCase.Lower.{str_to_lowercase}
use Rattle.std.proofs.lemmas.Bool.{agree_below, agree_below_at, and_parts, cases_Bool, cases_lt, le-leb, lt-ltb}
use Rattle.std.proofs.lemmas.Bool.{or_left, or_right}
use Rattle.std.proofs.lemmas.List.Elements.{All-cons, All-from_get_or, All-nil}
use Rattle.std.proofs.lemmas.List.Folds.{list_all-append}
use Rattle.std.proofs.lemmas.List.Sums.{list_all-from_AllPass}
use Rattle.std.proofs.lemmas.Str.{encode_ascii, encodes-append, inside_one}
use Rattle.markdown_base.specs.Bytes.{hyphen, space, underscore}
use Rattle.markdown_heading_ids.specs.Anchors.{anchor_part, heading_anchor, is_kept_in_anchor}
use Rattle.markdown_heading_ids.specs.HeadingIds.{Id, anchor_id, free_from, free_id, is_taken, with_ids}
use Rattle.markdown_heading_ids.specs.IdLaws.{GivenIdsAreOfWords, GivenIdsArePlain, IsOfWords, NoGivenIdIsEmpty}
use Rattle.markdown_heading_ids.specs.IdLaws.{is_id_byte}
use Rattle.markdown_heading_ids.specs.IdsOfEvents.{AreFresh, ids_given}
use Rattle.markdown_heading_ids.proofs.FreeIdLemmas.{free_is_free, taken_later}
use Rattle.markdown_heading_ids.proofs.IdsOfEventsLemmas.{all_given, given_ids_are_fresh}
use Rattle.ucd_category.proofs.Computing.{ucd_category}

-- ---- the digits of a number

module _ (P : ℕ → Type 0) (each : (d : ℕ) → d < 10 → P (48 + d)) where
  glyph : (d : ℕ) → d < 10 → P (digit_glyph false d)
  glyph d low = rw (lt-ltb d 10 low) (each d low)

  onto : (k n : ℕ) (more : List ℕ) → AllByRecursion P more → AllByRecursion P (digits_onto k 10 false n more)
  onto zero n more all = all
  onto (suc k) n more all = elim (cases_Bool (n / 10 == 0)) [
    | inl last ↦ rw last (glyph (n % 10) (omega arith), all)
    | inr longer ↦ rw longer (onto k (n / 10) (digit_glyph false (n % 10) ∷ more) (glyph (n % 10) (omega arith), all))
  ]

  -- what holds of each digit holds of those of a number
  pub each_digit : (n : ℕ) → AllByRecursion P (decimal n)
  unfolding digits
  each_digit n = onto 64 n [] tt

-- ---- an ASCII character that is kept

abbrev is_word_byte : ℕ → Bool
is_word_byte b = is_ascii_alphanumeric b || ((b == hyphen) || (b == underscore))

words_agree : agree_below is_kept_in_anchor is_word_byte 128 ≡ true
unfolding ucd_category
words_agree = refl

kept_ascii : (c : ℕ) → c < 128 → is_kept_in_anchor c ≡ is_word_byte c
kept_ascii c low = agree_below_at is_kept_in_anchor is_word_byte 128 c words_agree low

-- ---- an id is made of characters that are kept

no_words : IsOfWords []
no_words = record { characters = []; spelt = refl; kept = refl }

one_word : (c : ℕ) → is_kept_in_anchor c ≡ true → IsOfWords (encode_utf8 c)
one_word c kept = record { characters = c ∷ []; spelt = sym (append-nil (encode_utf8 c)); kept = rw kept refl }

join : {a b : Id} → IsOfWords a → IsOfWords b → IsOfWords (a ++ b)
join {a} {b} x y = record {
  characters = x.characters ++ y.characters;
  spelt = cc (encodes-append x.characters y.characters, x.spelt, y.spelt);
  kept = rw (list_all-append is_kept_in_anchor x.characters y.characters, x.kept, y.kept) refl;
}

hyphen_word : IsOfWords (codes "-")
hyphen_word = subst IsOfWords (encode_ascii 45 (omega arith)) (one_word 45 refl)

-- the anchor
part_word : (c : ℕ) → IsOfWords (anchor_part c)
part_word c = elim (cases_Bool (c == space)) [
  | inl is ↦ rw is hyphen_word
  | inr other ↦ elim (cases_Bool (is_kept_in_anchor c)) [
    | inl kept ↦ rw (other, kept) (one_word c kept)
    | inr dropped ↦ rw (other, dropped) no_words
  ]
]

parts_words : (cs : List ℕ) → IsOfWords (flat_map anchor_part cs)
parts_words [] = no_words
parts_words (c ∷ cs) = join (part_word c) (parts_words cs)

-- with a number
digit_kept : (d : ℕ) → d < 10 → (48 + d < 128) × (is_kept_in_anchor (48 + d) ≡ true)
digit_kept d low = (omega (arith, low), kept_ascii (48 + d) (omega (arith, low)) ∙ digit_word)
  where
    digit_word : is_word_byte (48 + d) ≡ true
    digit_word = rw (le-leb 48 (48 + d) (omega arith), le-leb (48 + d) 57 (omega (arith, low))) refl

digits_words : (ds : List ℕ) → AllByRecursion (λ b. (b < 128) × (is_kept_in_anchor b ≡ true)) ds → IsOfWords ds
digits_words [] all = no_words
digits_words (d ∷ ds) ((low, kept), all) =
    join (subst IsOfWords (encode_ascii d low) (one_word d kept)) (digits_words ds all)

numbered_words : {anchor : Id} → IsOfWords anchor → (n : ℕ) → IsOfWords (anchor_id anchor n)
numbered_words words zero = words
numbered_words words (suc n) =
    join (join words hyphen_word) (digits_words (decimal (suc n)) (each_digit _ digit_kept (suc n)))

free_words : (tries : ℕ) (taken : List Id) {anchor : Id} → IsOfWords anchor → (n : ℕ)
    → IsOfWords (free_from tries taken anchor n)
free_words zero taken words n = numbered_words words n
free_words (suc tries) taken {anchor} words n = elim (cases_Bool (is_taken taken (anchor_id anchor n))) [
  | inl is ↦ rw is (free_words tries taken words (suc n))
  | inr free ↦ rw free (numbered_words words n)
]

given_words : (taken : List Id) (words : List ℕ) → IsOfWords (free_id taken (heading_anchor words))
given_words taken words = free_words (length taken) taken (parts_words (chars (str_to_lowercase words))) 0

pub given_ids_are_of_words : GivenIdsAreOfWords
given_ids_are_of_words taken events = all_given IsOfWords given_words taken events

-- ---- so each byte is plain

plain_byte : (c k : ℕ) → is_kept_in_anchor c ≡ true → k < length (encode_utf8 c)
    → is_id_byte (get_or (encode_utf8 c) k 0) ≡ true
plain_byte c k kept within = elim (cases_lt (get_or (encode_utf8 c) k 0) 128) [
  | inl small ↦
      let same : c ≡ get_or (encode_utf8 c) k 0 =
      inside_one c [] (encode_utf8 c) k (sym (append-nil (encode_utf8 c))) within small in
      ap is_id_byte (sym same) ∙ plain (subst (λ b. b < 128) (sym same) small)
  | inr large ↦ or_left _ _ (le-leb 128 (get_or (encode_utf8 c) k 0) large)
]
  where
    plain : c < 128 → is_id_byte c ≡ true
    plain low = or_right _ (is_word_byte c) (sym (kept_ascii c low) ∙ kept)

plain_bytes : (cs : List ℕ) → list_all is_kept_in_anchor cs ≡ true
    → list_all is_id_byte (encode_utf8_all cs) ≡ true
plain_bytes [] all = refl
plain_bytes (c ∷ cs) all =
    let parts = and_parts (is_kept_in_anchor c) (list_all is_kept_in_anchor cs) all in
    let first : list_all is_id_byte (encode_utf8 c) ≡ true =
    list_all-from_AllPass is_id_byte (encode_utf8 c)
    (All-from_get_or (λ b. is_id_byte b ≡ true) (encode_utf8 c) 0 (λ k within. plain_byte c k parts.0 within)) in
    rw (list_all-append is_id_byte (encode_utf8 c) (encode_utf8_all cs), first) (plain_bytes cs parts.1)

given_plain : (taken : List Id) (words : List ℕ)
    → list_all is_id_byte (free_id taken (heading_anchor words)) ≡ true
given_plain taken words =
    let of = given_words taken words in
    ap (list_all is_id_byte) of.spelt ∙ plain_bytes of.characters of.kept

pub given_ids_are_plain : GivenIdsArePlain
given_ids_are_plain taken events = all_given (λ id. list_all is_id_byte id ≡ true) given_plain taken events

-- ---- and none is empty

some_fresh : (taken : List Id) (id : Id) → is_taken taken id ≡ false → is_taken taken [] ≡ true → 0 < length id
some_fresh taken [] free is = cc (free, is)
some_fresh taken (b ∷ id) free is = omega arith

some_of_fresh : (taken ids : List Id) → AreFresh taken ids → is_taken taken [] ≡ true
    → All (λ (id : Id). 0 < length id) ids
some_of_fresh taken [] fresh is = All-nil (λ (id : Id). 0 < length id)
some_of_fresh taken (id ∷ ids) (free, fresh) is = All-cons (λ (id : Id). 0 < length id) id ids
    (some_fresh taken id free is) (some_of_fresh (id ∷ taken) ids fresh (taken_later id [] taken is))

pub no_given_id_is_empty : NoGivenIdIsEmpty
no_given_id_is_empty taken events is few = some_of_fresh taken (ids_given events (with_ids taken events))
    (given_ids_are_fresh free_is_free taken events few) is
