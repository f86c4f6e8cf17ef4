-- Words in braces: what is left of them, and what one word more says.
use Rattle.std.proofs.Common.{◌≡◌, ◌≢◌, ⊎_elim, ℕ, zero, suc, ◌+◌, ◌<◌, List, [], ◌∷◌, true, false, Option, Some, Bor}
use Rattle.std.proofs.Common.{None, length, take, drop, get_or, refl, ap, ◌∙◌, arith}
use Rattle.std.proofs.lemmas.Bool.{not-false, cases_Bool}
use Rattle.std.proofs.lemmas.Bool.Decides.{nat_tests}
use Rattle.std.proofs.lemmas.List.Sums.{prefix_len-le-length, prefix_len_stops}
use Rattle.std.specs.List.{onto_first, position_or_len, slice_split}
use Rattle.std.specs.Prelude.{not}
use Rattle.markdown_lines.specs.HeadingAttributes.{parts_words}

-- the words that are left to read, of a text that is left, if one is
abbrev pub words_left : Option (Bor (List ℕ)) → List (List ℕ)
words_left None = []
words_left (Some text) = slice_split parts_words text.now

abbrev pub size_left : Option (Bor (List ℕ)) → ℕ
size_left None = 0
size_left (Some text) = suc (length text.now)

-- what parts words is ASCII
pub parting_ascii : (byte : ℕ) → parts_words byte ≡ true → byte < 128
parting_ascii byte h = grind (arith, nat_tests)

-- where a word ends before the end, an ASCII byte follows it
pub after_word : (bytes : List ℕ) → position_or_len parts_words bytes < length bytes
    → get_or bytes (position_or_len parts_words bytes) 0 < 128
after_word bytes less =
    parting_ascii (get_or bytes (position_or_len parts_words bytes) 0)
    (not-false (parts_words (get_or bytes (position_or_len parts_words bytes) 0))
    (prefix_len_stops (λ b. not (parts_words b)) bytes 0 less))

pub word_ends : (text bytes : List ℕ) (n : ℕ) → bytes ≡ text → n ≡ position_or_len parts_words bytes
    → n ≢ length text → (n < length text) × (get_or text n 0 < 128)
word_ends text bytes n same is differs =
    let e : n ≡ position_or_len parts_words text = is ∙ ap (position_or_len parts_words) same in
    let most = prefix_len-le-length (λ b. not (parts_words b)) text in
    let less : n < length text = omega (arith, e, most, differs) in
    (less, rw e (after_word text (omega (arith, e, less))))

-- one byte more in front of the first word
word_with : (b : ℕ) (bytes : List ℕ) → parts_words b ≡ false
    → slice_split parts_words (b ∷ bytes) ≡ onto_first b (slice_split parts_words bytes)
word_with b bytes letter = rw letter refl

no_word_with : (b : ℕ) (bytes : List ℕ) → parts_words b ≡ true
    → slice_split parts_words (b ∷ bytes) ≡ [] ∷ slice_split parts_words bytes
no_word_with b bytes parts = rw parts refl

size_with : (b : ℕ) (bytes : List ℕ) → parts_words b ≡ false
    → position_or_len parts_words (b ∷ bytes) ≡ 1 + position_or_len parts_words bytes
size_with b bytes letter = rw letter refl

no_size : (b : ℕ) (bytes : List ℕ) → parts_words b ≡ true → position_or_len parts_words (b ∷ bytes) ≡ 0
no_size b bytes parts = rw parts refl

-- a text without white space is one word
pub one_word : (bytes : List ℕ) → position_or_len parts_words bytes ≡ length bytes
    → slice_split parts_words bytes ≡ bytes ∷ []
one_word [] whole = refl
one_word (b ∷ bytes) whole =
    ⊎_elim (λ (parts : parts_words b ≡ true). absurd (omega (arith, whole, no_size b bytes parts)))
    (λ (letter : parts_words b ≡ false).
    word_with b bytes letter
    ∙ ap (onto_first b) (one_word bytes (omega (arith, whole, size_with b bytes letter))))
    (cases_Bool (parts_words b))

-- a text with white space is the word before it, and the words after it
pub word_before : (bytes : List ℕ) (n : ℕ) → n ≡ position_or_len parts_words bytes → n < length bytes
    → slice_split parts_words bytes ≡ take n bytes ∷ slice_split parts_words (drop (suc n) bytes)
word_before [] n is less = absurd (omega (arith, less))
word_before (b ∷ bytes) zero is less =
    ⊎_elim (λ (parts : parts_words b ≡ true). no_word_with b bytes parts)
    (λ (letter : parts_words b ≡ false). absurd (omega (arith, is, size_with b bytes letter)))
    (cases_Bool (parts_words b))
word_before (b ∷ bytes) (suc n) is less =
    ⊎_elim (λ (parts : parts_words b ≡ true). absurd (omega (arith, is, no_size b bytes parts)))
    (λ (letter : parts_words b ≡ false).
    word_with b bytes letter
    ∙ ap (onto_first b) (word_before bytes n (omega (arith, is, size_with b bytes letter)) (omega (arith, less))))
    (cases_Bool (parts_words b))

pub word_cut : (bytes : List ℕ) (n next : ℕ) (word rest : List ℕ) → n ≡ position_or_len parts_words bytes
    → n < length bytes → next ≡ n + 1 → word ≡ take n bytes → rest ≡ drop next bytes
    → slice_split parts_words bytes ≡ word ∷ slice_split parts_words rest
word_cut bytes n next word rest is less after w r =
    let e : next ≡ suc n = omega (arith, after) in rw (w, r, e) (word_before bytes n is less)
