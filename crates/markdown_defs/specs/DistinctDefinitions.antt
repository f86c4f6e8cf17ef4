-- Definitions of which no key finds two.
use Rattle.std.specs.Prelude.{◌≢◌, List}
use Rattle.std.specs.List.{AllPairs}
use Rattle.markdown_base.specs.CowText.{text_of}
use Rattle.markdown_defs.specs.Folding.{case_folding}
use Rattle.markdown_defs.specs.Definitions.{Labelled}

-- the labels of two definitions have different foldings
abbrev pub HasOtherFolding : Labelled → Labelled → Type 0
HasOtherFolding d e = case_folding (text_of d.0) ≢ case_folding (text_of e.0)

-- no key finds two of the definitions
abbrev pub AreDistinct : List Labelled → Type 0
AreDistinct definitions = AllPairs HasOtherFolding definitions
