-- What is read of a value in quotes, character by character.
use Rattle.std.proofs.Common.{◌≡◌, ◌∙◌, ℕ, List, [], ◌∷◌, ◌++◌, Bool, true, false, refl, sym, ap, ◌==◌, ◌&&◌, rules}
use Rattle.std.proofs.Common.{encode_utf8, encode_utf8_all, Option, Some, None, append_assoc, append-nil, option_map}
use Rattle.markdown_base.specs.Bytes.{apostrophe, backslash, double_quote}
use Rattle.markdown_base.specs.declared.tag.MetadataBlockKind.{MetadataBlockKind}
use Rattle.markdown_base.proofs.BoolLemmas.{by_test}
use Rattle.markdown_page.specs.MetadataTitle.{can_be_escaped, double_quoted, may_follow_quotes, onto_value}
use Rattle.markdown_page.specs.MetadataTitle.{single_quoted, starts_with_char, value_in_quotes}
use Rattle.std.proofs.lemmas.Bool.{eqb-true}

-- a value in quotes, of which these bytes were read before, and what follows it
abbrev pub with_bytes : List ℕ → Option (List ℕ × List ℕ) → Option (List ℕ × List ℕ)
with_bytes before quoted = option_map (λ q. (before ++ encode_utf8_all q.0, q.1)) quoted

-- the next character is read
pub with_bytes-onto : (before : List ℕ) (c : ℕ) (quoted : Option (List ℕ × List ℕ))
    → with_bytes (before ++ encode_utf8 c) quoted ≡ with_bytes before (onto_value c quoted)
with_bytes-onto before c None = refl
with_bytes-onto before c (Some q) =
    ap (λ l. Some (l, q.1)) (append_assoc before (encode_utf8 c) (encode_utf8_all q.0))

-- the value in quotes is that of its bytes
pub value_in_quotes-bytes : (metadata : MetadataBlockKind) (quoted : Option (List ℕ × List ℕ))
    → value_in_quotes metadata (with_bytes [] quoted) ≡ option_map encode_utf8_all (value_in_quotes metadata quoted)
value_in_quotes-bytes metadata None = refl
value_in_quotes-bytes metadata (Some q) =
    by_test (may_follow_quotes metadata q.1) (λ e. rw e refl) (λ e. rw e refl)

-- a character of a value in `"`
pub double_quoted-other : (c : ℕ) (cs : List ℕ) → (c == double_quote) ≡ false → (c == backslash) ≡ false
    → double_quoted (c ∷ cs) ≡ onto_value c (double_quoted cs)
double_quoted-other c [] quote slash = rw quote refl
double_quoted-other c (d ∷ cs) quote slash = rw (quote, slash) refl

-- its end
pub double_quoted-end : (c : ℕ) (cs : List ℕ) → (c == double_quote) ≡ true → double_quoted (c ∷ cs) ≡ Some ([], cs)
double_quoted-end c [] quote = rw quote refl
double_quoted-end c (d ∷ cs) quote = rw quote refl

-- a backslash is no `"`
slash_alone : (c : ℕ) → (c == backslash) ≡ true → (c == double_quote) ≡ false
slash_alone c slash = rw (eqb-true c backslash slash) refl

-- a backslash at the end
pub double_quoted-alone : (c : ℕ) → (c == backslash) ≡ true → double_quoted (c ∷ []) ≡ None
double_quoted-alone c slash = rw (slash_alone c slash) refl

-- a backslash before another character
pub double_quoted-refused : (c d : ℕ) (cs : List ℕ) → (c == backslash) ≡ true → can_be_escaped d ≡ false
    → double_quoted (c ∷ d ∷ cs) ≡ None
double_quoted-refused c d cs slash other = rw (slash_alone c slash, slash, other) refl

-- a backslash and what it escapes
pub double_quoted-escape : (c d : ℕ) (cs : List ℕ) → (c == backslash) ≡ true → can_be_escaped d ≡ true
    → double_quoted (c ∷ d ∷ cs) ≡ onto_value d (double_quoted cs)
double_quoted-escape c d cs slash escapes = rw (slash_alone c slash, slash, escapes) refl

-- a character of a value in `'`
pub single_quoted-other : (doubled : Bool) (c : ℕ) (cs : List ℕ) → (c == apostrophe) ≡ false
    → single_quoted doubled (c ∷ cs) ≡ onto_value c (single_quoted doubled cs)
single_quoted-other doubled c [] quote = rw quote refl
single_quoted-other doubled c (d ∷ cs) quote = rw quote refl

-- its end
pub single_quoted-end : (doubled : Bool) (c : ℕ) (cs : List ℕ) → (c == apostrophe) ≡ true
    → doubled && starts_with_char apostrophe cs ≡ false → single_quoted doubled (c ∷ cs) ≡ Some ([], cs)
single_quoted-end doubled c [] quote ends = rw quote refl
single_quoted-end doubled c (d ∷ cs) quote ends = rw (quote, ends) refl

-- two that stand for one
pub single_quoted-two : (doubled : Bool) (c d : ℕ) (cs : List ℕ) → (c == apostrophe) ≡ true
    → doubled && (d == apostrophe) ≡ true → single_quoted doubled (c ∷ d ∷ cs) ≡ onto_value d (single_quoted doubled cs)
single_quoted-two doubled c d cs quote two = rw (quote, two) refl

-- a text that begins with `'` is not empty
pub doubled-none : (doubled : Bool) (cs : List ℕ) → doubled && starts_with_char apostrophe cs ≡ true → cs ≡ [] → ⊥
doubled-none true [] begins none = search (rules, begins)
doubled-none false [] begins none = search (rules, begins)
doubled-none doubled (c ∷ cs) begins none = search (rules, none)

module _ (metadata : MetadataBlockKind) (before : List ℕ) (left whole : Option (List ℕ × List ℕ)) where
  -- where what is left has no end, there is no value
  pub value-lacks : left ≡ None → with_bytes before left ≡ with_bytes [] whole
      → None ≡ option_map encode_utf8_all (value_in_quotes metadata whole)
  value-lacks none read =
      let nothing : with_bytes [] whole ≡ None = sym read ∙ ap (with_bytes before) none in
      sym (sym (value_in_quotes-bytes metadata whole) ∙ ap (value_in_quotes metadata) nothing)

  -- where it ends at once, the value is what was read, if what follows may
  pub value-ends : (rest : List ℕ) → left ≡ Some ([], rest) → with_bytes before left ≡ with_bytes [] whole
      → may_follow_quotes metadata rest ≡ true
      → Some before ≡ option_map encode_utf8_all (value_in_quotes metadata whole)
  value-ends rest ends read follows =
      let found : with_bytes [] whole ≡ Some (before, rest) =
      sym read ∙ ap (with_bytes before) ends ∙ ap (λ l. Some (l, rest)) (append-nil before) in
      sym (sym (value_in_quotes-bytes metadata whole) ∙ ap (value_in_quotes metadata) found ∙ rw follows refl)

  -- and else there is none
  pub value-refused : (rest : List ℕ) → left ≡ Some ([], rest) → with_bytes before left ≡ with_bytes [] whole
      → may_follow_quotes metadata rest ≡ false
      → None ≡ option_map encode_utf8_all (value_in_quotes metadata whole)
  value-refused rest ends read follows =
      let found : with_bytes [] whole ≡ Some (before, rest) =
      sym read ∙ ap (with_bytes before) ends ∙ ap (λ l. Some (l, rest)) (append-nil before) in
      sym (sym (value_in_quotes-bytes metadata whole) ∙ ap (value_in_quotes metadata) found ∙ rw follows refl)
