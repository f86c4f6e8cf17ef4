-- A title that was read, as contracts describe it.
use Rattle.std.specs.Prelude.{◌≡◌, ℕ, Bool, Option, Some, None}
use Rattle.markdown_base.specs.CowText.{text_of}
use Rattle.markdown_base.specs.declared.cow_str.CowStr.{CowStr}
use Rattle.markdown_scan.specs.Unescape.{unescaped}
use Rattle.markdown_scan.specs.declared.entity.EntityNames.{EntityNames}
use Rattle.markdown_document.specs.LinkTitle.{Title, title_origin}
use Rattle.markdown_document.specs.Origins.{origin_of}

-- the title is returned, if there is one: the byte offset after it, and its text with escapes and entities replaced,
-- which has the title's origin
abbrev pub ReadsTitle : EntityNames → Bool → Option Title → Option (ℕ × CowStr) → Type 0
ReadsTitle names in_table None None = Unit {0}
ReadsTitle names in_table None (Some found) = ⊥
ReadsTitle names in_table (Some t) None = ⊥
ReadsTitle names in_table (Some t) (Some found) =
    (found.0 ≡ t.ends) × (text_of found.1 ≡ unescaped names in_table t.text)
    × (origin_of found.1 ≡ title_origin names in_table t.text t.is_joined)
