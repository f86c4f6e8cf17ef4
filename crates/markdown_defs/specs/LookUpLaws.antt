-- What look-ups of definitions and footnotes find, in terms of default caseless matching only.
use Rattle.std.specs.Prelude.{◌≡◌, ◌↔◌, ℕ, List, [], ◌∷◌, ◌++◌, Any, IsTrue, MatchOption, chars}
use Rattle.markdown_base.specs.CowText.{text_of}
use Rattle.markdown_base.specs.declared.block_parts.LinkDef.{LinkDef}
use Rattle.markdown_base.specs.declared.cow_str.CowStr.{CowStr}
use Rattle.markdown_defs.specs.Definitions.{Labelled, find_definition}
use Rattle.markdown_defs.specs.Folding.{is_match}
use Rattle.markdown_defs.specs.Footnotes.{footnote_at}
use Rattle.markdown_defs.specs.FootnoteCounts.{unused, unused_at}
use Rattle.markdown_defs.specs.declared.footnotes.FootnoteDefs.{FootnoteDefs}
use Rattle.caseless.specs.Caseless.{IsDefaultMatch}

-- two texts match (D144): their foldings are equal
abbrev pub Matches : List ℕ → List ℕ → Type 0
Matches a b = IsDefaultMatch (chars a) (chars b)

-- no label matches the key
abbrev pub NoneMatches : List ℕ → List Labelled → Type 0
NoneMatches key [] = Unit {0}
NoneMatches key (d ∷ definitions) = (Matches key (text_of d.0) → ⊥) × NoneMatches key definitions

-- `found` is one of the definitions, its label matches the key, and no label before it does
pub record IsFirstMatch (key : List ℕ) (definitions : List Labelled) (found : LinkDef) : Type 0 where
  pub before : List Labelled
  pub label : CowStr
  pub after : List Labelled
  pub stands : definitions ≡ before ++ (label, found) ∷ after
  pub matches : Matches key (text_of label)
  pub first : NoneMatches key before

-- a key finds the first definition whose label matches it, and nothing if none does
abbrev pub FindsFirstMatch : Type 0
FindsFirstMatch = (key : List ℕ) (definitions : List Labelled)
    → MatchOption (find_definition key definitions) (NoneMatches key definitions) (IsFirstMatch key definitions)

-- keys that match find the same definition
abbrev pub MatchingKeysAgree : Type 0
MatchingKeysAgree = (a b : List ℕ) (definitions : List Labelled)
    → Matches a b → find_definition a definitions ≡ find_definition b definitions

-- the test by which footnotes are counted and written is default caseless matching
abbrev pub TestsMatching : Type 0
TestsMatching = (a b : List ℕ) → IsTrue (is_match a b) ↔ Matches a b

-- one of these names matches
abbrev pub IsAmongNames : List CowStr → List ℕ → Type 0
IsAmongNames names name = Any (λ n. Matches (text_of n) name) names

-- initially a name finds a footnote that has not been used if it matches one of the names passed in, and nothing
-- otherwise
abbrev pub FindsNamed : Type 0
FindsNamed = (names : List CowStr) (name : List ℕ)
    → MatchOption (unused_at names name) (IsAmongNames names name
    → ⊥) (λ found. (found ≡ unused) × IsAmongNames names name)

-- names that match find the same footnote
abbrev pub MatchingNamesAgree : Type 0
MatchingNamesAgree = (a b : List ℕ) (footnotes : FootnoteDefs)
    → Matches a b → footnote_at footnotes a ≡ footnote_at footnotes b
