-- How often a footnote was used.
use Rattle.std.specs.Prelude.{ℕ, ◌+◌, ◌-◌, ◌^◌, List, Option, Some, None, if◌then◌else◌, min}
use Rattle.std.specs.List.{list_any}
use Rattle.markdown_base.specs.CowText.{text_of}
use Rattle.markdown_base.specs.declared.cow_str.CowStr.{CowStr}
use Rattle.markdown_defs.specs.Folding.{is_match}
use Rattle.markdown_defs.specs.declared.footnotes.FootnoteDef.{FootnoteDef}

-- a footnote that has not been used
abbrev pub unused : FootnoteDef
unused = record { use_count = 0 }

-- a footnote with one more use, up to the maximum count
abbrev pub used_once_more : FootnoteDef → FootnoteDef
used_once_more footnote = record { use_count = min (footnote.use_count + 1) (2 ^ 64 - 1) }

-- what a name finds among footnotes that have not been used
abbrev pub unused_at : List CowStr → List ℕ → Option FootnoteDef
unused_at names name = if list_any (λ n. is_match (text_of n) name) names then Some unused else None
