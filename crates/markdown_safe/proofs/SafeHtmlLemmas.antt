-- Safe HTML piece by piece: what is escaped is safe, and so are tags whose attributes are.
use Rattle.std.proofs.Common.{◌≡◌, ◌≢◌, ◌<◌, ◌≤◌, ◌+◌, ◌%◌, ◌/◌, ◌++◌, ◌==◌, ◌||◌, ℕ, zero, suc, Bool, true, false}
use Rattle.std.proofs.Common.{List, [], ◌∷◌, map, refl, sym, ap, ◌∙◌, append-nil, arith, ◌⊎◌, inl, inr, codes, None}
use Rattle.std.proofs.Common.{subst, if◌then◌else◌, nat_lt}
use Rattle.std.specs.List.{flat_map, list_all, list_any}
use Rattle.std.specs.Option.{option_map}
use Rattle.std.specs.Char.{is_ascii_digit, is_ascii_alphanumeric}
use Rattle.std.proofs.lemmas.Bool.Decides.{nat_tests}
use Rattle.std.specs.Fmt.{decimal, digits, digits_onto, digit_glyph}
use Rattle.std.proofs.lemmas.List.Concat.{flat_map-append}
use Rattle.std.proofs.lemmas.List.Folds.{list_all-append}
use Rattle.std.proofs.lemmas.Bool.{and_parts, cases_eq, ne_eqb}
use Rattle.percent_encoding.specs.Percent.{percent_encode_byte}
use Rattle.markdown_out.specs.Escapes.{text_byte, attribute_byte, destination_byte, text_escaped, attribute_escaped}
use Rattle.markdown_out.specs.Escapes.{destination_escaped, is_kept_byte}
use Rattle.markdown_out.specs.TagHtml.{may_be_in_scheme}
use Rattle.markdown_safe.specs.SafeUrl.{before_colon, is_dropped_byte, is_safe_url}
use Rattle.markdown_safe.specs.SafeHtml.{Character, by_itself, by_reference, character_bytes, meant, is_in_text}
use Rattle.markdown_safe.specs.SafeHtml.{is_in_value, HtmlPiece, character, start_tag, end_tag, void_tag}
use Rattle.markdown_safe.specs.SafeHtml.{bytes_of_piece, is_safe_piece, IsSafeHtml}

-- a tag opens an element, or closes one
pub data Turn : Type 0 where
  opens : List ℕ → Turn
  closes : List ℕ → Turn

-- what the tag of a piece does, where it is one that needs an end tag, or is one
abbrev pub turns_of : HtmlPiece → List Turn
turns_of (character c) = []
turns_of (start_tag name attributes) = opens name ∷ []
turns_of (end_tag name) = closes name ∷ []
turns_of (void_tag name attributes ends) = []

-- these bytes are safe pieces, whose tags do this
pub record IsMarkup (html : List ℕ) (turns : List Turn) : Type 0 where
  pub pieces : List HtmlPiece
  pub are : html ≡ flat_map bytes_of_piece pieces
  pub safe : list_all is_safe_piece pieces ≡ true
  pub does : flat_map turns_of pieces ≡ turns

-- so they are safe HTML
pub markup_safe : {turns : List Turn} (html : List ℕ) → IsMarkup html turns → IsSafeHtml html
markup_safe html m = record { pieces = m.pieces; are = m.are; safe = m.safe }

-- safe HTML before safe HTML
pub safe_both : (xs ys : List ℕ) → IsSafeHtml xs → IsSafeHtml ys → IsSafeHtml (xs ++ ys)
safe_both xs ys x y = record {
  pieces = x.pieces ++ y.pieces;
  are = rw (x.are, y.are) (sym (flat_map-append bytes_of_piece x.pieces y.pieces));
  safe = list_all-append is_safe_piece x.pieces y.pieces ∙ rw (x.safe, y.safe) refl;
}

-- safe pieces
pub safe_pieces : (pieces : List HtmlPiece) → list_all is_safe_piece pieces ≡ true
    → IsSafeHtml (flat_map bytes_of_piece pieces)
safe_pieces pieces safe = record { pieces = pieces; are = refl; safe = safe }

pub of_pieces : (pieces : List HtmlPiece) → list_all is_safe_piece pieces ≡ true
    → IsMarkup (flat_map bytes_of_piece pieces) (flat_map turns_of pieces)
of_pieces pieces safe = record { pieces = pieces; are = refl; safe = safe; does = refl }

-- two parts
pub both : {ts us : List Turn} (xs ys : List ℕ) → IsMarkup xs ts → IsMarkup ys us → IsMarkup (xs ++ ys) (ts ++ us)
both xs ys x y = record {
  pieces = x.pieces ++ y.pieces;
  are = rw (x.are, y.are) (sym (flat_map-append bytes_of_piece x.pieces y.pieces));
  safe = list_all-append is_safe_piece x.pieces y.pieces ∙ rw (x.safe, y.safe) refl;
  does = flat_map-append turns_of x.pieces y.pieces ∙ rw (x.does, y.does) refl;
}

-- the four bytes that escapes replace, and every other byte
split : (P : ℕ → Type 0) → P 38 → P 60 → P 62 → P 34
    → ((b : ℕ) → (b == 38) ≡ false → (b == 60) ≡ false → (b == 62) ≡ false → (b == 34) ≡ false → P b)
    → (b : ℕ) → P b
split P a l g q other b = elim (cases_eq b 38) [
  | inl e ↦ subst P (sym e) a
  | inr na ↦ elim (cases_eq b 60) [
    | inl e ↦ subst P (sym e) l
    | inr nl ↦ elim (cases_eq b 62) [
      | inl e ↦ subst P (sym e) g
      | inr ng ↦ elim (cases_eq b 34) [
        | inl e ↦ subst P (sym e) q
        | inr nq ↦ other b (ne_eqb b 38 na) (ne_eqb b 60 nl) (ne_eqb b 62 ng) (ne_eqb b 34 nq)
      ]
    ]
  ]
]

-- how the escapes write a byte
abbrev text_character : ℕ → Character
text_character b =
    if b == 38 then by_reference b else if b == 60 then by_reference b else if b == 62 then by_reference b
    else by_itself b

abbrev value_character : ℕ → Character
value_character b = if b == 34 then by_reference b else text_character b

text_written : (b : ℕ) → character_bytes (text_character b) ≡ text_byte b
text_written = split (λ b. character_bytes (text_character b) ≡ text_byte b) refl refl refl refl
    (λ b a l g q. rw (a, l, g) refl)

text_in_text : (b : ℕ) → is_in_text (text_character b) ≡ true
text_in_text = split (λ b. is_in_text (text_character b) ≡ true) refl refl refl refl
    (λ b a l g q. rw (a, l, g) (rw (a, l, g) refl))

value_written : (b : ℕ) → character_bytes (value_character b) ≡ attribute_byte b
value_written = split (λ b. character_bytes (value_character b) ≡ attribute_byte b) refl refl refl refl
    (λ b a l g q. rw (a, l, g, q) refl)

value_in_text : (b : ℕ) → is_in_text (value_character b) ≡ true
value_in_text = split (λ b. is_in_text (value_character b) ≡ true) refl refl refl refl
    (λ b a l g q. rw (a, l, g, q) (rw (a, l, g) refl))

value_in_value : (b : ℕ) → is_in_value (value_character b) ≡ true
value_in_value = split (λ b. is_in_value (value_character b) ≡ true) refl refl refl refl
    (λ b a l g q. rw (a, l, g, q) (rw (a, l, g, q) refl))

value_meant : (b : ℕ) → meant (value_character b) ≡ b
value_meant = split (λ b. meant (value_character b) ≡ b) refl refl refl refl
    (λ b a l g q. rw (a, l, g, q) refl)

-- a byte that no escape replaces
plain_in_value : (b : ℕ) → b ≢ 38 → b ≢ 60 → b ≢ 62 → b ≢ 34 → is_in_value (by_itself b) ≡ true
plain_in_value b a l g q = rw (ne_eqb b 38 a, ne_eqb b 60 l, ne_eqb b 62 g, ne_eqb b 34 q) refl

plain_in_text : (b : ℕ) → is_in_value (by_itself b) ≡ true → is_in_text (by_itself b) ≡ true
plain_in_text = split (λ b. is_in_value (by_itself b) ≡ true → is_in_text (by_itself b) ≡ true)
    (λ h. h) (λ h. h) (λ h. h) (λ h. refl)
    (λ b a l g q h. rw (a, l, g) refl)

-- bytes, each written as a character that may stand in text
characters_safe : (f : ℕ → List ℕ) (g : ℕ → Character) → ((b : ℕ) → character_bytes (g b) ≡ f b)
    → ((b : ℕ) → is_in_text (g b) ≡ true) → (bytes : List ℕ) → IsMarkup (flat_map f bytes) []
characters_safe f g writes safe [] = of_pieces [] refl
characters_safe f g writes safe (b ∷ bytes) =
    let here : IsMarkup (f b) [] = record {
      pieces = character (g b) ∷ [];
      are = sym (writes b) ∙ sym (append-nil (character_bytes (g b)));
      safe = rw (safe b) refl;
      does = refl;
    } in
    both (f b) (flat_map f bytes) here (characters_safe f g writes safe bytes)

-- escaped text is safe
pub text_safe : (bytes : List ℕ) → IsMarkup (text_escaped bytes) []
text_safe = characters_safe text_byte text_character text_written text_in_text

-- so is text that is escaped as a value
pub attribute_safe : (bytes : List ℕ) → IsMarkup (attribute_escaped bytes) []
attribute_safe = characters_safe attribute_byte value_character value_written value_in_text

-- these bytes are a value, which a browser reads as these
pub record IsValue (bytes read : List ℕ) : Type 0 where
  pub value : List Character
  pub are : bytes ≡ flat_map character_bytes value
  pub means : map meant value ≡ read
  pub safe : list_all is_in_value value ≡ true

map-append : (xs ys : List Character) → map meant (xs ++ ys) ≡ map meant xs ++ map meant ys
map-append [] ys = refl
map-append (x ∷ xs) ys = ap (λ l. meant x ∷ l) (map-append xs ys)

pub value-append : (xs ys rs ss : List ℕ) → IsValue xs rs → IsValue ys ss → IsValue (xs ++ ys) (rs ++ ss)
value-append xs ys rs ss x y = record {
  value = x.value ++ y.value;
  are = rw (x.are, y.are) (sym (flat_map-append character_bytes x.value y.value));
  means = map-append x.value y.value ∙ rw (x.means, y.means) refl;
  safe = list_all-append is_in_value x.value y.value ∙ rw (x.safe, y.safe) refl;
}

pub value-empty : IsValue [] []
value-empty = record { value = []; are = refl; means = refl; safe = refl }

-- an escaped value
pub value-escaped : (bytes : List ℕ) → IsValue (attribute_escaped bytes) bytes
value-escaped [] = value-empty
value-escaped (b ∷ bytes) =
    value-append (attribute_byte b) (attribute_escaped bytes) (b ∷ []) bytes (record {
      value = value_character b ∷ [];
      are = sym (value_written b) ∙ sym (append-nil (character_bytes (value_character b)));
      means = rw (value_meant b) refl;
      safe = rw (value_in_value b) refl;
    }) (value-escaped bytes)

-- bytes that no escape replaces
pub value-plain : (bytes : List ℕ) → list_all (λ b. is_in_value (by_itself b)) bytes ≡ true → IsValue bytes bytes
value-plain [] h = value-empty
value-plain (b ∷ bytes) h =
    let parts = and_parts (is_in_value (by_itself b)) (list_all (λ c. is_in_value (by_itself c)) bytes) h in
    value-append (b ∷ []) bytes (b ∷ []) bytes (record {
      value = by_itself b ∷ [];
      are = refl;
      means = refl;
      safe = rw (parts.0) refl;
    }) (value-plain bytes parts.1)

-- digits
digit_plain : (b : ℕ) → is_ascii_digit b ≡ true → is_in_value (by_itself b) ≡ true
digit_plain = split (λ b. is_ascii_digit b ≡ true → is_in_value (by_itself b) ≡ true)
    (λ h. cc h) (λ h. cc h) (λ h. cc h) (λ h. cc h)
    (λ b a l g q h. rw (a, l, g, q) refl)

pub digits_plain : (bytes : List ℕ) → list_all is_ascii_digit bytes ≡ true
    → list_all (λ b. is_in_value (by_itself b)) bytes ≡ true
digits_plain [] h = refl
digits_plain (b ∷ bytes) h =
    let parts = and_parts (is_ascii_digit b) (list_all is_ascii_digit bytes) h in
    rw (digit_plain b parts.0, digits_plain bytes parts.1) refl

glyph_is_digit : (n : ℕ) → is_ascii_digit (digit_glyph false (n % 10)) ≡ true
glyph_is_digit n = below (n % 10) (omega arith)
  where
    below : (d : ℕ) → d < 10 → is_ascii_digit (digit_glyph false d) ≡ true
    below d h = grind (arith, nat_tests)

digits_are : (k n : ℕ) (acc : List ℕ) → list_all is_ascii_digit acc ≡ true
    → list_all is_ascii_digit (digits_onto k 10 false n acc) ≡ true
digits_are zero n acc h = h
digits_are (suc k) n acc h =
    let more : list_all is_ascii_digit (digit_glyph false (n % 10) ∷ acc) ≡ true = rw (glyph_is_digit n, h) refl in
    elim (n / 10 == 0) as (λ b. list_all is_ascii_digit (if b then digit_glyph false (n % 10) ∷ acc
    else digits_onto k 10 false (n / 10) (digit_glyph false (n % 10) ∷ acc)) ≡ true) [
      | true ↦ more
      | false ↦ digits_are k (n / 10) (digit_glyph false (n % 10) ∷ acc) more
    ]

pub decimal_digits : (n : ℕ) → list_all is_ascii_digit (decimal n) ≡ true
unfolding digits
decimal_digits n = digits_are 64 n [] refl

-- plain bytes are safe as text too
pub plain_safe : (bytes : List ℕ) → list_all (λ b. is_in_value (by_itself b)) bytes ≡ true → IsMarkup bytes []
plain_safe [] h = of_pieces [] refl
plain_safe (b ∷ bytes) h =
    let parts = and_parts (is_in_value (by_itself b)) (list_all (λ c. is_in_value (by_itself c)) bytes) h in
    let here : IsMarkup (b ∷ []) [] = record {
      pieces = character (by_itself b) ∷ [];
      are = refl;
      safe = rw (plain_in_text b parts.0) refl;
      does = refl;
    } in
    both (b ∷ []) bytes here (plain_safe bytes parts.1)

-- a hexadecimal digit
glyph_plain : (n : ℕ) → is_in_value (by_itself (digit_glyph true (n % 16))) ≡ true
glyph_plain n = below (n % 16) (omega arith)
  where
    low : (d : ℕ) → d < 10 → is_in_value (by_itself (48 + d)) ≡ true
    low d h = plain_in_value (48 + d) (omega arith) (omega arith) (omega arith) (omega arith)

    high : (d : ℕ) → d < 16 → (nat_lt d 10) ≡ false → is_in_value (by_itself (55 + d)) ≡ true
    high d h l = let above : 10 ≤ d = grind (arith, nat_tests) in
        plain_in_value (55 + d) (omega arith) (omega arith) (omega arith) (omega arith)

    below : (d : ℕ) → d < 16 → is_in_value (by_itself (digit_glyph true d)) ≡ true
    below d h = by_test (nat_lt d 10) refl
      where
        by_test : (t : Bool) → nat_lt d 10 ≡ t → is_in_value (by_itself (if t then 48 + d else 55 + d)) ≡ true
        by_test true e = let lt : d < 10 = grind (arith, nat_tests) in low d lt
        by_test false e = high d h e

-- a destination, as it is written: what a browser reads has the same bytes before a colon, or no scheme
pub record IsDestination (bytes destination : List ℕ) : Type 0 where
  pub read : List ℕ
  pub value : IsValue bytes read
  pub scheme : (before_colon read ≡ before_colon destination) ⊎ (before_colon read ≡ None)

pub destination-empty : IsDestination [] []
destination-empty = record { read = []; value = value-empty; scheme = inl refl }

-- a byte that a scheme may have, a destination keeps
scheme_in_kept : (b : ℕ) → may_be_in_scheme b ≡ true → is_kept_byte b ≡ true
scheme_in_kept b h = elim (cases_eq b 43) [
  | inl e ↦ rw e refl
  | inr n1 ↦ elim (cases_eq b 45) [
    | inl e ↦ rw e refl
    | inr n2 ↦ elim (cases_eq b 46) [
      | inl e ↦ rw e refl
      | inr n3 ↦
          let letter : is_ascii_alphanumeric b ≡ true =
          or_none _ (rw (ne_eqb 43 b (λ e. n1 (sym e)), ne_eqb 45 b (λ e. n2 (sym e)), ne_eqb 46 b (λ e. n3 (sym e)))
          at h) in
          rw letter refl
    ]
  ]
]
  where
    or_none : (x : Bool) → (x || false) ≡ true → x ≡ true
    or_none true h = refl
    or_none false h = h

-- no mark from 33 on is below 33
no_mark : (marks : List ℕ) (b : ℕ) → list_all (λ mark. nat_lt 32 mark) marks ≡ true → b < 33
    → list_any (λ mark. mark == b) marks ≡ false
no_mark [] b high low = refl
no_mark (m ∷ marks) b high low =
    let parts = and_parts (nat_lt 32 m) (list_all (λ mark. nat_lt 32 mark) marks) high in
    let here : (m == b) ≡ false = apart m b parts.0 low in
    rw (here, no_mark marks b parts.1 low) refl
  where
    apart : (m b : ℕ) → nat_lt 32 m ≡ true → b < 33 → (m == b) ≡ false
    apart m b h l = grind (arith, nat_tests)

-- a byte that a destination keeps is not dropped
kept_stays : (b : ℕ) → is_kept_byte b ≡ true → is_dropped_byte b ≡ false
kept_stays b h = by_test (nat_lt b 33) refl
  where
    no_letter : (b : ℕ) → b < 33 → is_ascii_alphanumeric b ≡ false
    no_letter b l = grind (arith, nat_tests)

    by_test : (t : Bool) → nat_lt b 33 ≡ t → t ≡ false
    by_test false e = refl
    by_test true e =
        let low : b < 33 = grind (arith, nat_tests) in
        sym h ∙ rw (no_letter b low, no_mark (codes "!#$%()*+,-./:;=?@_~") b refl low) refl

-- and no escape replaces it
kept_plain : (b : ℕ) → is_kept_byte b ≡ true → is_in_value (by_itself b) ≡ true
kept_plain = split (λ b. is_kept_byte b ≡ true → is_in_value (by_itself b) ≡ true)
    (λ h. cc h) (λ h. cc h) (λ h. cc h) (λ h. cc h)
    (λ b a l g q h. rw (a, l, g, q) refl)

-- a byte of a destination that a scheme may have is kept
scheme_byte_kept : (b : ℕ) → may_be_in_scheme b ≡ true → destination_byte b ≡ b ∷ []
scheme_byte_kept b h = elim (cases_eq b 38) [
  | inl e ↦ absurd (no (rw e at h))
  | inr na ↦ elim (cases_eq b 39) [
    | inl e ↦ absurd (no (rw e at h))
    | inr ns ↦ rw (ne_eqb b 38 na, ne_eqb b 39 ns, scheme_in_kept b h) refl
  ]
]
  where
    no : false ≡ true → ⊥
    no e = cc

-- what another byte is written as: not a byte of a scheme
pub record IsNoScheme (bytes : List ℕ) : Type 0 where
  pub first : ℕ
  pub rest : List ℕ
  pub value : IsValue bytes (first ∷ rest)
  pub ends : (more : List ℕ) → before_colon (first ∷ (rest ++ more)) ≡ None

percent_no_scheme : (b : ℕ) → IsNoScheme (percent_encode_byte b)
unfolding percent_encode_byte
percent_no_scheme b = record {
  first = 37;
  rest = digit_glyph true (b / 16 % 16) ∷ digit_glyph true (b % 16) ∷ [];
  value = record {
    value = by_itself 37 ∷ by_itself (digit_glyph true (b / 16 % 16)) ∷ by_itself (digit_glyph true (b % 16)) ∷ [];
    are = refl;
    means = refl;
    safe = rw (glyph_plain (b / 16), glyph_plain b) refl;
  };
  ends = λ more. refl;
}

ends_scheme : (b : ℕ) (more : List ℕ) → is_dropped_byte b ≡ false → (b == 58) ≡ false → may_be_in_scheme b ≡ false
    → before_colon (b ∷ more) ≡ None
ends_scheme b more d c s = rw (d, c, s) refl

other_byte : (b : ℕ) → may_be_in_scheme b ≡ false → (b == 58) ≡ false → IsNoScheme (destination_byte b)
other_byte b s c = elim (cases_eq b 38) [
  | inl e ↦ subst (λ x. IsNoScheme (destination_byte x)) (sym e) (of_reference 38 refl refl (λ more. refl))
  | inr na ↦ elim (cases_eq b 39) [
    | inl e ↦ subst (λ x. IsNoScheme (destination_byte x)) (sym e) (of_reference 39 refl refl (λ more. refl))
    | inr ns ↦
        rw (ne_eqb b 38 na, ne_eqb b 39 ns) (by_test (is_kept_byte b) refl)
  ]
]
  where
    of_reference : (b : ℕ) → destination_byte b ≡ character_bytes (by_reference b) → is_in_value (by_reference b) ≡ true
        → ((more : List ℕ) → before_colon (b ∷ more) ≡ None) → IsNoScheme (destination_byte b)
    of_reference b w i e = record {
      first = b;
      rest = [];
      value = record {
        value = by_reference b ∷ [];
        are = w ∙ sym (append-nil (character_bytes (by_reference b)));
        means = refl;
        safe = rw i refl;
      };
      ends = e;
    }

    by_test : (t : Bool) → is_kept_byte b ≡ t → IsNoScheme (if t then b ∷ [] else percent_encode_byte b)
    by_test true e = record {
      first = b;
      rest = [];
      value = record { value = by_itself b ∷ []; are = refl; means = refl; safe = rw (kept_plain b e) refl };
      ends = λ more. ends_scheme b more (kept_stays b e) c s;
    }
    by_test false e = percent_no_scheme b

-- a destination as it is written
pub destination-escaped : (destination : List ℕ) → IsDestination (destination_escaped destination) destination
destination-escaped [] = destination-empty
destination-escaped (b ∷ more) =
    let tail = destination-escaped more in
    elim (cases_eq b 58) [
      | inl e ↦ subst (λ x. IsDestination (destination_escaped (x ∷ more)) (x ∷ more)) (sym e) (at_colon tail)
      | inr n ↦ by_test tail (ne_eqb b 58 n) (may_be_in_scheme b) refl
    ]
  where
    at_colon : IsDestination (destination_escaped more) more
        → IsDestination (destination_escaped (58 ∷ more)) (58 ∷ more)
    at_colon tail = record {
      read = 58 ∷ tail.read;
      value = value-append (58 ∷ []) (destination_escaped more) (58 ∷ []) tail.read
          (value-plain (58 ∷ []) refl) tail.value;
      scheme = inl refl;
    }

    scheme_step : (read : List ℕ) → is_dropped_byte b ≡ false → (b == 58) ≡ false → may_be_in_scheme b ≡ true
        → before_colon (b ∷ read) ≡ option_map (λ found. b ∷ found) (before_colon read)
    scheme_step read d c s = rw (d, c, s) refl

    by_test : IsDestination (destination_escaped more) more → (b == 58) ≡ false → (t : Bool) → may_be_in_scheme b ≡ t
        → IsDestination (destination_byte b ++ destination_escaped more) (b ∷ more)
    by_test tail c true s =
        let kept = kept_stays b (scheme_in_kept b s) in
        rw (scheme_byte_kept b s) (record {
          read = b ∷ tail.read;
          value = value-append (b ∷ []) (destination_escaped more) (b ∷ []) tail.read
              (value-plain (b ∷ []) (rw (kept_plain b (scheme_in_kept b s)) refl)) tail.value;
          scheme = elim tail.scheme [
            | inl e ↦ inl (scheme_step tail.read kept c s ∙ (ap (option_map (λ found. b ∷ found)) e
                ∙ sym (scheme_step more kept c s)))
            | inr e ↦ inr (scheme_step tail.read kept c s ∙ ap (option_map (λ found. b ∷ found)) e)
          ];
        })
    by_test tail c false s =
        let other = other_byte b s c in record {
          read = (other.first ∷ other.rest) ++ tail.read;
          value = value-append (destination_byte b) (destination_escaped more) (other.first ∷ other.rest) tail.read
              other.value tail.value;
          scheme = inr (other.ends tail.read);
        }

-- a destination that is a safe URL is one as it is written
pub destination-safe : (schemes : List (List ℕ)) (bytes destination : List ℕ) (d : IsDestination bytes destination)
    → is_safe_url schemes destination ≡ true
    → is_safe_url schemes d.read ≡ true
destination-safe schemes bytes destination d safe = elim d.scheme [
  | inl e ↦ rw e safe
  | inr e ↦ rw e refl
]
