-- An index of definitions: the position of the first definition of each folding. For private clauses.
use Rattle.std.specs.Prelude.{◌≡◌, ℕ, List, Option, String, encode_utf8_all}
use Rattle.std.specs.BTreeMap.{BTreeMap, get_by_text}
use Rattle.std.specs.List.{position_from}
use Rattle.markdown_defs.specs.Definitions.{Labelled, has_folding}

-- the position of the first definition whose label has this folding
abbrev pub place_of : List ℕ → List Labelled → Option ℕ
place_of folded definitions = position_from (has_folding folded) 0 definitions

-- the index contains the position for each folding, by its bytes in UTF-8
abbrev pub IsIndex : {A : Type 0} → BTreeMap (String A) ℕ → List Labelled → Type 0
IsIndex index definitions = (folded : List ℕ)
    → get_by_text index (encode_utf8_all folded) ≡ place_of folded definitions
