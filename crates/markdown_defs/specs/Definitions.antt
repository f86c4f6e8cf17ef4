-- Link reference definitions, looked up by their labels: the first of several that match takes precedence (CommonMark
-- 4.7).
use Rattle.std.specs.Prelude.{ℕ, List, [], ◌∷◌, ◌++◌, Bool, cond, find, is_some, nat_eq, Option}
use Rattle.std.specs.Cmp.Lexicographic.{pointwise}
use Rattle.std.specs.List.{fold}
use Rattle.std.specs.Option.{option_map}
use Rattle.markdown_base.specs.CowText.{text_of}
use Rattle.markdown_base.specs.declared.block_parts.LinkDef.{LinkDef}
use Rattle.markdown_base.specs.declared.cow_str.CowStr.{CowStr}
use Rattle.markdown_defs.specs.Folding.{case_folding}

-- a definition with its label as written
abbrev pub Labelled : Type 0
Labelled = CowStr × LinkDef

-- a definition's label has this folding
abbrev pub has_folding : List ℕ → Labelled → Bool
has_folding folded d = pointwise nat_eq folded (case_folding (text_of d.0))

-- the first definition whose label has this folding
abbrev pub first_at : List ℕ → List Labelled → Option Labelled
first_at folded definitions = find (has_folding folded) definitions

-- what a key finds: the first definition whose label has the key's folding
abbrev pub find_definition : List ℕ → List Labelled → Option LinkDef
find_definition key definitions = option_map (λ d. d.1) (first_at (case_folding key) definitions)

-- the definitions so far with one more, unless they contain one of equal folding
abbrev pub add_first : List Labelled → Labelled → List Labelled
add_first kept d = cond (is_some (first_at (case_folding (text_of d.0)) kept)) kept (kept ++ d ∷ [])

-- the definitions that can be found: the first of each folding, in their order
unfoldable pub firsts : List Labelled → List Labelled
firsts definitions = fold add_first [] definitions
