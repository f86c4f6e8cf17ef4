-- Safe HTML: text, and tags with names and attributes out of these lists. A `<` begins one of these tags, and nothing
-- else; a `&` begins one of five character references; and each attribute's value stands between double quotes, in
-- which there is no `"`, `<` or `>`.
use Rattle.std.specs.Prelude.{◌≡◌, ℕ, Bool, true, not, List, [], ◌∷◌, ◌++◌, ◌==◌, ◌&&◌, ◌||◌, codes, map, nat_eq}
use Rattle.std.specs.Prelude.{if◌then◌else◌}
use Rattle.std.specs.Char.{is_ascii_digit, is_ascii_whitespace}
use Rattle.std.specs.List.{flat_map, list_all, list_any, starts_with}
use Rattle.std.specs.Str.{bytes_eq}
use Rattle.markdown_base.specs.Bytes.{ampersand, double_quote, greater_than, less_than}
use Rattle.markdown_safe.specs.SafeUrl.{image_schemes, is_safe_url, link_schemes}

-- a byte of text or of an attribute's value, as it is written in HTML
pub data Character : Type 0 where
  -- by itself
  by_itself : ℕ → Character
  -- by a character reference
  by_reference : ℕ → Character

-- how a character is written
abbrev pub character_bytes : Character → List ℕ
character_bytes (by_itself b) = b ∷ []
character_bytes (by_reference b) =
    if b == ampersand then codes "&amp;"
    else if b == less_than then codes "&lt;"
    else if b == greater_than then codes "&gt;"
    else if b == double_quote then codes "&quot;"
    else codes "&#x27;"

-- the byte that a browser reads
abbrev pub meant : Character → ℕ
meant (by_itself b) = b
meant (by_reference b) = b

-- a character may stand in text
abbrev pub is_in_text : Character → Bool
is_in_text (by_itself b) = not (list_any (λ mark. b == mark) (codes "&<>"))
is_in_text (by_reference b) = list_any (λ mark. b == mark) (codes "&<>\"'")

-- a character may stand in an attribute's value
abbrev pub is_in_value : Character → Bool
is_in_value (by_itself b) = not (list_any (λ mark. b == mark) (codes "&<>\""))
is_in_value (by_reference b) = list_any (λ mark. b == mark) (codes "&<>\"'")

-- an attribute of a tag
pub record Attribute : Type 0 where
  pub name : List ℕ
  pub value : List Character

-- one of these
abbrev pub is_listed : List (List ℕ) → List ℕ → Bool
is_listed names name = list_any (bytes_eq name) names

-- the classes that the renderer has of its own, or `language-` and the name of a language: one class
abbrev pub is_safe_class : List ℕ → Bool
is_safe_class value =
    is_listed (
    codes "footnote-reference" ∷ codes "footnote-definition" ∷ codes "footnote-definition-label"
    ∷ codes "math math-inline" ∷ codes "math math-display" ∷ codes "markdown-alert-note"
    ∷ codes "markdown-alert-tip" ∷ codes "markdown-alert-important" ∷ codes "markdown-alert-warning"
    ∷ codes "markdown-alert-caution" ∷ []
    ) value
    || (starts_with nat_eq value (codes "language-") && list_all (λ b. not (is_ascii_whitespace b)) value)

-- the alignment of a column, as the attribute `align` has it
abbrev pub is_alignment : List ℕ → Bool
is_alignment value = is_listed (codes "left" ∷ codes "center" ∷ codes "right" ∷ []) value

-- and as `style` has it, where the HTML is written by upstream's rules
abbrev pub is_alignment_style : List ℕ → Bool
is_alignment_style value =
    is_listed (codes "text-align: left" ∷ codes "text-align: center" ∷ codes "text-align: right" ∷ []) value

-- each attribute, with what its value must be
abbrev pub value_rules : List (List ℕ × (List ℕ → Bool))
value_rules =
    (codes "href", is_safe_url link_schemes) ∷ (codes "src", is_safe_url image_schemes)
    ∷ (codes "alt", λ value. true) ∷ (codes "title", λ value. true) ∷ (codes "class", is_safe_class)
    ∷ (codes "id", λ value. starts_with nat_eq value (codes "user-content-"))
    ∷ (codes "start", list_all is_ascii_digit) ∷ (codes "style", is_alignment_style)
    ∷ (codes "align", is_alignment) ∷ (codes "rel", is_listed (codes "nofollow ugc noopener" ∷ []))
    ∷ (codes "type", is_listed (codes "checkbox" ∷ [])) ∷ (codes "disabled", is_listed ([] ∷ []))
    ∷ (codes "checked", is_listed ([] ∷ [])) ∷ []

-- an attribute is in this list, and its value, as a browser reads it, is as it must be
abbrev pub is_safe_attribute : Attribute → Bool
is_safe_attribute a = list_all is_in_value a.value
    && list_any (λ rule. bytes_eq a.name rule.0 && rule.1 (map meant a.value)) value_rules

-- each tag of an element that ends with an end tag: its name, and the attributes that it may have
abbrev pub element_rules : List (List ℕ × List (List ℕ))
element_rules =
    (codes "p", []) ∷ (codes "h1", codes "id" ∷ []) ∷ (codes "h2", codes "id" ∷ []) ∷ (codes "h3", codes "id" ∷ [])
    ∷ (codes "h4", codes "id" ∷ []) ∷ (codes "h5", codes "id" ∷ []) ∷ (codes "h6", codes "id" ∷ [])
    ∷ (codes "blockquote", codes "class" ∷ []) ∷ (codes "pre", []) ∷ (codes "code", codes "class" ∷ [])
    ∷ (codes "ul", []) ∷ (codes "ol", codes "start" ∷ []) ∷ (codes "li", [])
    ∷ (codes "dl", []) ∷ (codes "dt", []) ∷ (codes "dd", []) ∷ (codes "table", []) ∷ (codes "thead", [])
    ∷ (codes "tbody", []) ∷ (codes "tr", [])
    ∷ (codes "th", codes "style" ∷ codes "align" ∷ []) ∷ (codes "td", codes "style" ∷ codes "align" ∷ [])
    ∷ (codes "em", []) ∷ (codes "strong", []) ∷ (codes "del", []) ∷ (codes "sup", codes "class" ∷ [])
    ∷ (codes "sub", []) ∷ (codes "a", codes "href" ∷ codes "title" ∷ codes "rel" ∷ [])
    ∷ (codes "div", codes "class" ∷ codes "id" ∷ []) ∷ (codes "span", codes "class" ∷ []) ∷ []

-- each tag of an element that has no end tag and holds nothing: its name, the attributes that it may have, and those
-- that it must have
abbrev pub void_rules : List (List ℕ × List (List ℕ) × List (List ℕ))
void_rules =
    (codes "br", [], []) ∷ (codes "hr", [], []) ∷ (codes "wbr", [], [])
    ∷ (codes "img", codes "src" ∷ codes "alt" ∷ codes "title" ∷ [], codes "src" ∷ codes "alt" ∷ [])
    ∷ (
      codes "input",
      codes "disabled" ∷ codes "type" ∷ codes "checked" ∷ [],
      codes "disabled" ∷ codes "type" ∷ [],
    ) ∷ []

-- a piece of HTML
pub data HtmlPiece : Type 0 where
  -- a character of text
  character : Character → HtmlPiece
  -- the start tag of an element that ends with an end tag, by its name and its attributes
  start_tag : List ℕ → List Attribute → HtmlPiece
  -- an end tag, by its name
  end_tag : List ℕ → HtmlPiece
  -- the tag of an element that has no end tag, by its name, its attributes, and how it ends
  void_tag : List ℕ → List Attribute → List ℕ → HtmlPiece

-- how an attribute is written
abbrev pub attribute_bytes : Attribute → List ℕ
attribute_bytes a = codes " " ++ (a.name ++ (codes "=\"" ++ (flat_map character_bytes a.value ++ codes "\"")))

-- how a tag with attributes is written
abbrev pub tag_bytes : List ℕ → List Attribute → List ℕ → List ℕ
tag_bytes name attributes ends = codes "<" ++ (name ++ (flat_map attribute_bytes attributes ++ ends))

-- how a piece is written
abbrev pub bytes_of_piece : HtmlPiece → List ℕ
bytes_of_piece (character c) = character_bytes c
bytes_of_piece (start_tag name attributes) = tag_bytes name attributes (codes ">")
bytes_of_piece (end_tag name) = codes "</" ++ (name ++ codes ">")
bytes_of_piece (void_tag name attributes ends) = tag_bytes name attributes ends

-- all attributes are among these
abbrev pub has_only : List (List ℕ) → List Attribute → Bool
has_only names attributes = list_all (λ a. is_listed names a.name) attributes

-- each of these is an attribute
abbrev pub has_each : List (List ℕ) → List Attribute → Bool
has_each names attributes = list_all (λ name. list_any (λ a. bytes_eq a.name name) attributes) names

-- a piece is safe
abbrev pub is_safe_piece : HtmlPiece → Bool
is_safe_piece (character c) = is_in_text c
is_safe_piece (start_tag name attributes) =
    list_any (λ rule. bytes_eq name rule.0 && has_only rule.1 attributes) element_rules
    && list_all is_safe_attribute attributes
is_safe_piece (end_tag name) = list_any (λ rule. bytes_eq name rule.0) element_rules
is_safe_piece (void_tag name attributes ends) =
    list_any (λ rule. bytes_eq name rule.0 && (has_only rule.1 attributes && has_each rule.2 attributes)) void_rules
    && (list_all is_safe_attribute attributes && is_listed (codes " />" ∷ codes "/>" ∷ []) ends)

-- these bytes are safe pieces, one after another
pub record IsSafeHtml (html : List ℕ) : Type 0 where
  pub pieces : List HtmlPiece
  pub are : html ≡ flat_map bytes_of_piece pieces
  pub safe : list_all is_safe_piece pieces ≡ true

-- these bytes are the first of safe HTML: of a tag perhaps only a part, but nothing more
pub record IsStartOfSafeHtml (html : List ℕ) : Type 0 where
  pub missing : List ℕ
  pub safe : IsSafeHtml (html ++ missing)
