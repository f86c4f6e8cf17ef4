-- The law that contents read back from their records, and when they have records.
use Rattle.std.specs.Prelude.{◌≡◌, ◌≤◌, ◌<◌, ◌^◌, ◌++◌, ℕ, List, [], ◌∷◌, length, Some}
use Rattle.std.specs.List.{flat_map}
use Rattle.std.specs.Str.{IsUtf8}
use Rattle.markdown_records.specs.Drafts.{DraftView, Wording, no_text, number_instead, pooled, sought}
use Rattle.markdown_records.specs.Drafts.{definition_drafts, entry_drafts}
use Rattle.markdown_records.specs.Decoded.{decoded}
use Rattle.markdown_records.specs.Encoded.{FitDrafts, blank, encoded, whole_sheet}
use Rattle.markdown_records.specs.RecordEntry.{Contents}

-- a text is UTF-8
abbrev pub IsWording : Wording → Type 0
IsWording no_text = Unit {0}
IsWording (number_instead n) = Unit {0}
IsWording (pooled text) = IsUtf8 text
IsWording (sought first second text) = IsUtf8 text

-- no range ends before it begins, and each text is UTF-8
abbrev pub AreSound : List DraftView → Type 0
AreSound [] = Unit {0}
AreSound (d ∷ ds) = (d.range.start ≤ d.range.end) × IsWording d.wording × AreSound ds

-- all drafts of contents
abbrev pub drafts_of : Contents → List DraftView
drafts_of c = flat_map entry_drafts c.entries ++ flat_map definition_drafts c.definitions

-- contents that records hold: their drafts are sound, and no number in the records, nor a length, is 2^32 or greater
pub record IsRecordable (source : List ℕ) (c : Contents) : Type 0 where
  pub sound : AreSound (drafts_of c)
  pub fit : FitDrafts source blank (drafts_of c)
  pub source_fits : length source < 2 ^ 32
  pub pool_fits : length (whole_sheet source c).pool < 2 ^ 32

-- they read back
abbrev pub RecordsReadBack : Type 0
RecordsReadBack = (source : List ℕ) (c : Contents) → IsRecordable source c
    → decoded source (encoded source c) ≡ Some c
