-- Bytes that are appended part by part.
use Rattle.std.proofs.Common.{◌≡◌, ◌++◌, ◌∷◌, ◌∙◌, ℕ, List, [], Option, Some, None, ap, refl, sym, append-nil, map}
use Rattle.std.specs.Prelude.{codes}
use Rattle.std.specs.Fmt.{decimal}
use Rattle.std.specs.List.{flat_map}
use Rattle.std.specs.Option.{option_map}
use Rattle.std.proofs.lemmas.List.Folds.{flat_map-map}
use Rattle.markdown_base.specs.CowText.{text_of}
use Rattle.markdown_base.specs.Event.{EventView, attribute_view, code_block_view}
use Rattle.markdown_base.specs.declared.cow_str.CowStr.{CowStr}
use Rattle.markdown_base.specs.declared.tag.CodeBlockKind.{CodeBlockKind}
use Rattle.markdown_base.specs.declared.tag.CodeBlockKind.TheVariants as code_block
use Rattle.markdown_out.specs.ByteLists.{AppendsPrefix}
use Rattle.markdown_out.proofs.ByteListsLemmas.{append-more, prefix-after, prefix-first, joined-flat_map}
use Rattle.markdown_json.specs.Json.{string, optional_value, array, after_comma, attribute_json, heading_json}
use Rattle.markdown_json.specs.Json.{level_json, tag_json, variant, event_json, line_start}
use Rattle.markdown_json.specs.JsonParts.{text_json, pair_json, heading_of, code_block_json, range_json}
use Rattle.markdown_json.specs.JsonPieces.{piece_json, spelled}
use Rattle.markdown_json.specs.declared.heading.HeadingFields.{HeadingFields}
use Rattle.markdown_json.specs.declared.pieces.Piece.{Piece}

-- a prefix of what comes after bytes that were appended
pub prefix-later : (old mid new first bytes : List ℕ) → mid ≡ old ++ first → AppendsPrefix mid new bytes
    → AppendsPrefix old new (first ++ bytes)
prefix-later old mid new first bytes e f =
    prefix-after old mid new first bytes (first ++ bytes) [] e f (ap (λ x. first ++ x) (append-nil bytes))

-- a prefix of the bytes that come first
pub prefix-earlier : (old new bytes rest : List ℕ) → AppendsPrefix old new bytes → AppendsPrefix old new (bytes ++ rest)
prefix-earlier old new bytes rest f = prefix-first old new bytes (bytes ++ rest) rest f refl

-- the pieces, one by one, are the bytes of all of them
pub spelled-flat_map : (pieces : List Piece) → flat_map piece_json pieces ≡ spelled pieces
spelled-flat_map pieces = sym (flat_map-map (λ part. part) piece_json pieces) ∙ joined-flat_map (map piece_json pieces)

-- a value that may be missing is written as its view
optional_same : {A B : Type 0} (f : B → List ℕ) (g : A → B) (o : Option A) → optional_value f (option_map g o)
    ≡ optional_value (λ x. f (g x)) o
optional_same f g None = refl
optional_same f g (Some x) = refl

-- a list is written as that of its items' views
array_same : {A B : Type 0} (f : B → List ℕ) (g : A → B) (xs : List A) → array f (map g xs) ≡ array (λ x. f (g x)) xs
array_same f g [] = refl
array_same f g (x ∷ xs) = rw (flat_map-map (after_comma f) g xs) refl

-- an attribute, field by field
pub attribute_parts : (a : CowStr × Option CowStr) → attribute_json (attribute_view a)
    ≡ (codes "[" ++ text_json a.0) ++ ((codes "," ++ optional_value text_json a.1) ++ codes "]")
attribute_parts a = rw (optional_same string text_of a.1) refl

-- an attribute whose fields were appended one after another
pub attribute_appended : (old named valued new : List ℕ) (a : CowStr × Option CowStr)
    → named ≡ old ++ (codes "[" ++ text_json a.0)
    → valued ≡ named ++ (codes "," ++ optional_value text_json a.1) → new ≡ valued ++ codes "]"
    → new ≡ old ++ attribute_json (attribute_view a)
attribute_appended old named valued new a name value end =
    append-more old named new (codes "[" ++ text_json a.0) ((codes "," ++ optional_value text_json a.1) ++ codes "]")
    name
    (append-more named valued new (codes "," ++ optional_value text_json a.1) (codes "]") value end)
    ∙ ap (λ x. old ++ x) (sym (attribute_parts a))

-- a heading, field by field
pub heading_parts : (h : HeadingFields) → heading_json (heading_of h)
    ≡ (codes "{\"level\":" ++ level_json h.level)
    ++ ((codes ",\"id\":" ++ optional_value text_json h.id.now)
    ++ ((codes ",\"classes\":" ++ array text_json h.classes.now.items)
    ++ ((codes ",\"attrs\":" ++ array pair_json h.attributes.now.items) ++ codes "}")))
heading_parts h =
    rw (
      optional_same string text_of h.id.now,
      array_same string text_of h.classes.now.items,
      array_same attribute_json attribute_view h.attributes.now.items,
    ) refl

-- a heading whose fields were appended one after another
pub heading_appended : (s0 s1 s2 s3 s4 new : List ℕ) (h : HeadingFields)
    → s1 ≡ s0 ++ (codes "{\"level\":" ++ level_json h.level)
    → s2 ≡ s1 ++ (codes ",\"id\":" ++ optional_value text_json h.id.now)
    → s3 ≡ s2 ++ (codes ",\"classes\":" ++ array text_json h.classes.now.items)
    → s4 ≡ s3 ++ (codes ",\"attrs\":" ++ array pair_json h.attributes.now.items)
    → new ≡ s4 ++ codes "}" → new ≡ s0 ++ heading_json (heading_of h)
heading_appended s0 s1 s2 s3 s4 new h level id classes attributes end =
    let rest = codes ",\"attrs\":" ++ array pair_json h.attributes.now.items in
    let more = codes ",\"classes\":" ++ array text_json h.classes.now.items in
    let most = codes ",\"id\":" ++ optional_value text_json h.id.now in
    append-more s0 s1 new (codes "{\"level\":" ++ level_json h.level) (most ++ (more ++ (rest ++ codes "}"))) level
    (append-more s1 s2 new most (more ++ (rest ++ codes "}")) id
    (append-more s2 s3 new more (rest ++ codes "}") classes (append-more s3 s4 new rest (codes "}") attributes end)))
    ∙ ap (λ x. s0 ++ x) (sym (heading_parts h))

-- a code block's tag has the JSON of its kind
pub code_block_same : (kind : CodeBlockKind) → tag_json (code_block_view kind)
    ≡ variant (codes "CodeBlock") (code_block_json kind)
code_block_same code_block.Indented = refl
code_block_same (code_block.Fenced info) = refl

-- the beginning of a line whose event and range were appended one after the other
pub line_appended : (old mid new : List ℕ) (e : EventView) (start end : ℕ) → mid ≡ old ++ (codes "[" ++ event_json e)
    → new ≡ mid ++ range_json (decimal start) (decimal end) → new ≡ old ++ line_start e start end
line_appended old mid new e start end event range =
    append-more old mid new (codes "[" ++ event_json e) (range_json (decimal start) (decimal end)) event range
