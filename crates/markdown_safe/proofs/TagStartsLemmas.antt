-- In safe HTML there is a `<` only where a tag begins.
use Rattle.std.proofs.Common.{◌≡◌, ◌++◌, ◌==◌, ◌&&◌, ◌||◌, ℕ, Bool, true, false, not, List, [], ◌∷◌, map, codes}
use Rattle.std.proofs.Common.{if◌then◌else◌, refl, sym, ap, ◌∙◌, append-nil}
use Rattle.std.specs.List.{flat_map, list_all, list_any}
use Rattle.std.specs.Str.{bytes_eq}
use Rattle.std.specs.Cmp.Lexicographic.{bytes_decides}
use Rattle.std.proofs.lemmas.List.Folds.{list_all-append}
use Rattle.std.proofs.lemmas.Bool.{and_parts}
use Rattle.markdown_safe.specs.SafeHtml.{Character, by_itself, by_reference, character_bytes, meant, is_in_text}
use Rattle.markdown_safe.specs.SafeHtml.{is_in_value, Attribute, HtmlPiece, character, start_tag, end_tag, void_tag}
use Rattle.markdown_safe.specs.SafeHtml.{bytes_of_piece, is_safe_piece, attribute_bytes, is_safe_attribute, is_listed}
use Rattle.markdown_safe.specs.SafeHtml.{has_only, has_each, element_rules, void_rules, value_rules}
use Rattle.markdown_safe.specs.TagStarts.{IsTag, BeginsTag, EachLessThanBeginsATag}
use Rattle.markdown_safe.proofs.SafeHtmlLemmas.{safe_both, safe_pieces}

-- no byte is a `<`
abbrev none : List ℕ → Bool
none bytes = list_all (λ b. not (b == 60)) bytes

none_both : (xs ys : List ℕ) → none xs ≡ true → none ys ≡ true → none (xs ++ ys) ≡ true
none_both xs ys h k = list_all-append (λ b. not (b == 60)) xs ys ∙ rw (h, k) refl

-- a name that is in a table of names
same_name : (xs ys : List ℕ) → bytes_eq xs ys ≡ true → xs ≡ ys
same_name xs ys h = (bytes_decides xs ys).0 h

in_table : {R : Type 0} (rules : List R) (named : R → List ℕ) (test : R → Bool) (name : List ℕ)
    → ((rule : R) → test rule ≡ true → bytes_eq name (named rule) ≡ true)
    → list_all (λ rule. none (named rule)) rules ≡ true → list_any test rules ≡ true → none name ≡ true
in_table [] named test name names clean h = cc h
in_table {R} (rule ∷ rules) named test name names clean h =
    let parts = and_parts (none (named rule)) (list_all (λ rule. none (named rule)) rules) clean in
    by_test (test rule) refl parts.0
    (λ (other : list_any test rules ≡ true). in_table rules named test name names parts.1 other)
  where
    by_test : (t : Bool) → test rule ≡ t → none (named rule) ≡ true → (list_any test rules ≡ true → none name ≡ true)
        → none name ≡ true
    by_test true e clean others = rw (same_name name (named rule) (names rule e)) clean
    by_test false e clean others = others (rw e at h)

among_names : (names : List (List ℕ)) (name : List ℕ) → list_all none names ≡ true → is_listed names name ≡ true
    → none name ≡ true
among_names [] name clean h = cc h
among_names (first ∷ names) name clean h =
    let parts = and_parts (none first) (list_all none names) clean in
    by_test (bytes_eq name first) refl parts.0
    (λ (other : is_listed names name ≡ true). among_names names name parts.1 other)
  where
    by_test : (t : Bool) → bytes_eq name first ≡ t → none first ≡ true
        → (is_listed names name ≡ true → none name ≡ true) → none name ≡ true
    by_test true e clean others = rw (same_name name first e) clean
    by_test false e clean others = others (rw e at h)

-- a character of text or of a value
none_reference : (b : ℕ) → none (character_bytes (by_reference b)) ≡ true
none_reference b = by_test (b == 38) (b == 60) (b == 62) (b == 34)
  where
    by_test : (s t u v : Bool) → none (if s then codes "&amp;" else if t then codes "&lt;" else if u then codes "&gt;"
        else if v then codes "&quot;" else codes "&#x27;") ≡ true
    by_test true t u v = refl
    by_test false true u v = refl
    by_test false false true v = refl
    by_test false false false true = refl
    by_test false false false false = refl

not_less : (s t u : Bool) → not (s || (t || u)) ≡ true → not t ≡ true
not_less true t u h = cc h
not_less false true u h = cc h
not_less false false u h = refl

in_text_none : (c : Character) → is_in_text c ≡ true → none (character_bytes c) ≡ true
in_text_none (by_itself b) h = rw (not_less (b == 38) (b == 60) _ h) refl
in_text_none (by_reference b) h = none_reference b

in_value_none : (c : Character) → is_in_value c ≡ true → none (character_bytes c) ≡ true
in_value_none (by_itself b) h = rw (not_less (b == 38) (b == 60) _ h) refl
in_value_none (by_reference b) h = none_reference b

value_none : (value : List Character) → list_all is_in_value value ≡ true → none (flat_map character_bytes value) ≡ true
value_none [] h = refl
value_none (c ∷ value) h =
    let parts = and_parts (is_in_value c) (list_all is_in_value value) h in
    none_both (character_bytes c) (flat_map character_bytes value) (in_value_none c parts.0) (value_none value parts.1)

-- attributes
attribute_none : (a : Attribute) → is_safe_attribute a ≡ true → none (attribute_bytes a) ≡ true
attribute_none a h =
    let parts = and_parts (list_all is_in_value a.value)
    (list_any (λ rule. bytes_eq a.name rule.0 && rule.1 (map meant a.value)) value_rules) h in
    let name = in_table value_rules (λ rule. rule.0)
    (λ rule. bytes_eq a.name rule.0 && rule.1 (map meant a.value)) a.name
    (λ rule h. (and_parts (bytes_eq a.name rule.0) (rule.1 (map meant a.value)) h).0) refl parts.1 in
    none_both a.name (codes "=\"" ++ (flat_map character_bytes a.value ++ codes "\"")) name
    (none_both (flat_map character_bytes a.value) (codes "\"") (value_none a.value parts.0) refl)

attributes_none : (attributes : List Attribute) → list_all is_safe_attribute attributes ≡ true
    → none (flat_map attribute_bytes attributes) ≡ true
attributes_none [] h = refl
attributes_none (a ∷ attributes) h =
    let parts = and_parts (is_safe_attribute a) (list_all is_safe_attribute attributes) h in
    none_both (attribute_bytes a) (flat_map attribute_bytes attributes) (attribute_none a parts.0)
    (attributes_none attributes parts.1)

-- a tag after its `<`
abbrev inner : HtmlPiece → List ℕ
inner (character c) = []
inner (start_tag name attributes) = name ++ (flat_map attribute_bytes attributes ++ codes ">")
inner (end_tag name) = codes "/" ++ (name ++ codes ">")
inner (void_tag name attributes ends) = name ++ (flat_map attribute_bytes attributes ++ ends)

tag_none : (name : List ℕ) (attributes : List Attribute) (ends : List ℕ) → none name ≡ true
    → list_all is_safe_attribute attributes ≡ true → none ends ≡ true
    → none (name ++ (flat_map attribute_bytes attributes ++ ends)) ≡ true
tag_none name attributes ends h k l = none_both name (flat_map attribute_bytes attributes ++ ends) h
    (none_both (flat_map attribute_bytes attributes) ends (attributes_none attributes k) l)

inner_none : (tag : HtmlPiece) → is_safe_piece tag ≡ true → none (inner tag) ≡ true
inner_none (character c) h = refl
inner_none (start_tag name attributes) h =
    let test = λ (rule : List ℕ × List (List ℕ)). bytes_eq name rule.0 && has_only rule.1 attributes in
    let parts = and_parts (list_any test element_rules) (list_all is_safe_attribute attributes) h in
    tag_none name attributes (codes ">") (in_table element_rules (λ rule. rule.0) test name
    (λ rule k. (and_parts (bytes_eq name rule.0) (has_only rule.1 attributes) k).0) refl parts.0) parts.1 refl
inner_none (end_tag name) h = none_both name (codes ">") (in_table element_rules (λ rule. rule.0)
    (λ rule. bytes_eq name rule.0) name (λ rule k. k) refl h) refl
inner_none (void_tag name attributes ends) h =
    let test = λ (rule : List ℕ × List (List ℕ) × List (List ℕ)). bytes_eq name rule.0
    && (has_only rule.1 attributes && has_each rule.2 attributes) in
    let last = is_listed (codes " />" ∷ codes "/>" ∷ []) ends in
    let parts = and_parts (list_any test void_rules) (list_all is_safe_attribute attributes && last) h in
    let others = and_parts (list_all is_safe_attribute attributes) last parts.1 in
    tag_none name attributes ends (in_table void_rules (λ rule. rule.0) test name
    (λ rule k. (and_parts (bytes_eq name rule.0) (has_only rule.1 attributes && has_each rule.2 attributes) k).0) refl
    parts.0) others.0 (among_names (codes " />" ∷ codes "/>" ∷ []) ends refl others.1)

-- a `<` after bytes that have none
record IsLater (xs ys before after : List ℕ) : Type 0 where
  pub others : List ℕ
  pub is : before ≡ xs ++ others
  pub left : ys ≡ others ++ 60 ∷ after

cons_same : (x b : ℕ) (xs others before : List ℕ) → x ≡ b → before ≡ xs ++ others → b ∷ before ≡ x ∷ (xs ++ others)
cons_same x b xs others before same is = ap (λ l. b ∷ l) is ∙ ap (λ y. y ∷ (xs ++ others)) (sym same)

later : (xs ys before after : List ℕ) → none xs ≡ true → xs ++ ys ≡ before ++ 60 ∷ after → IsLater xs ys before after
later [] ys before after h e = record { others = before; is = refl; left = e }
later (x ∷ xs) ys [] after h e =
    let same : x ≡ 60 = cc e in
    let clash : not (60 == 60) && none xs ≡ true = rw same at h in
    absurd (no clash)
  where
    no : false ≡ true → ⊥
    no e = cc
later (x ∷ xs) ys (b ∷ before) after h e =
    let parts = and_parts (not (x == 60)) (none xs) h in
    let same : x ≡ b = cc e in
    let rest : xs ++ ys ≡ before ++ 60 ∷ after = cc e in
    let l = later xs ys before after parts.1 rest in
    record { others = l.others; is = cons_same x b xs l.others before same l.is; left = l.left }

more_before : (p : HtmlPiece) (others before after : List ℕ) → is_safe_piece p ≡ true
    → before ≡ bytes_of_piece p ++ others
    → BeginsTag others after → BeginsTag before after
more_before p others before after safe is t = record {
  before_is_safe = rw is (safe_both (bytes_of_piece p) others (record {
    pieces = p ∷ [];
    are = sym (append-nil (bytes_of_piece p));
    safe = rw safe refl;
  }) t.before_is_safe);
  tag = t.tag;
  is_tag = t.is_tag;
  is_safe = t.is_safe;
  rest = t.rest;
  rest_is_safe = t.rest_is_safe;
  is = t.is;
}

tag_or_later : (tag : HtmlPiece) (pieces : List HtmlPiece) (before after : List ℕ) → IsTag tag
    → is_safe_piece tag ≡ true
    → list_all is_safe_piece pieces ≡ true → 60 ∷ inner tag ≡ bytes_of_piece tag
    → ((others : List ℕ) → flat_map bytes_of_piece pieces ≡ others ++ 60 ∷ after → BeginsTag others after)
    → 60 ∷ (inner tag ++ flat_map bytes_of_piece pieces) ≡ before ++ 60 ∷ after → BeginsTag before after
tag_or_later tag pieces [] after is_tag safe others_safe bytes goes_on e = record {
  before_is_safe = safe_pieces [] refl;
  tag = tag;
  is_tag = is_tag;
  is_safe = safe;
  rest = flat_map bytes_of_piece pieces;
  rest_is_safe = safe_pieces pieces others_safe;
  is = sym e ∙ ap (λ l. l ++ flat_map bytes_of_piece pieces) bytes;
}
tag_or_later tag pieces (b ∷ before) after is_tag safe others_safe bytes goes_on e =
    let same : 60 ≡ b = cc e in
    let rest : inner tag ++ flat_map bytes_of_piece pieces ≡ before ++ 60 ∷ after = cc e in
    let l = later (inner tag) (flat_map bytes_of_piece pieces) before after (inner_none tag safe) rest in
    more_before tag l.others (b ∷ before) after safe
    (cons_same 60 b (inner tag) l.others before same l.is ∙ ap (λ x. x ++ l.others) bytes) (goes_on l.others l.left)

-- piece by piece
among : (pieces : List HtmlPiece) (before after : List ℕ) → list_all is_safe_piece pieces ≡ true
    → flat_map bytes_of_piece pieces ≡ before ++ 60 ∷ after → BeginsTag before after
among [] [] after safe e = cc e
among [] (b ∷ before) after safe e = cc e
among (character c ∷ pieces) before after safe e =
    let parts = and_parts (is_in_text c) (list_all is_safe_piece pieces) safe in
    let l = later (character_bytes c) (flat_map bytes_of_piece pieces) before after (in_text_none c parts.0) e in
    more_before (character c) l.others before after parts.0 l.is (among pieces l.others after parts.1 l.left)
among (start_tag name attributes ∷ pieces) before after safe e =
    let parts = and_parts (is_safe_piece (start_tag name attributes)) (list_all is_safe_piece pieces) safe in
    tag_or_later (start_tag name attributes) pieces before after tt parts.0 parts.1 refl
    (λ others k. among pieces others after parts.1 k) e
among (void_tag name attributes ends ∷ pieces) before after safe e =
    let parts = and_parts (is_safe_piece (void_tag name attributes ends)) (list_all is_safe_piece pieces) safe in
    tag_or_later (void_tag name attributes ends) pieces before after tt parts.0 parts.1 refl
    (λ others k. among pieces others after parts.1 k) e
among (end_tag name ∷ pieces) before after safe e =
    let parts = and_parts (is_safe_piece (end_tag name)) (list_all is_safe_piece pieces) safe in
    tag_or_later (end_tag name) pieces before after tt parts.0 parts.1 refl
    (λ others k. among pieces others after parts.1 k) e

-- each `<` begins a tag
pub begins : EachLessThanBeginsATag
begins html before after safe e = among safe.pieces before after safe.safe (sym safe.are ∙ e)
