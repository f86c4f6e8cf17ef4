-- The tail of an inline link, as contracts describe it.
use Rattle.std.specs.Prelude.{◌≡◌, Bool, Option, Some, None}
use Rattle.markdown_base.specs.CowText.{text_of}
use Rattle.markdown_base.specs.StoredTexts.{IsBorrowed}
use Rattle.markdown_scan.specs.Unescape.{unescaped}
use Rattle.markdown_scan.specs.declared.entity.EntityNames.{EntityNames}
use Rattle.markdown_document.specs.LinkTitle as titles
use Rattle.markdown_document.specs.Origins.{origin_of}
use Rattle.markdown_brackets.specs.LinkTail as tail
use Rattle.markdown_brackets.specs.declared.link_tail.LinkTail.{LinkTail}

-- a returned tail has the same end, the destination and the title with escapes and entities replaced, and the title's
-- origin
pub record IsTail (names : EntityNames) (in_table : Bool) (t : tail.LinkTail) (found : LinkTail) : Type 0 where
  pub ends : found.end ≡ t.ends
  pub destination : text_of found.destination ≡ unescaped names in_table t.destination
  pub title : text_of found.title ≡ unescaped names in_table t.title
  pub title_origin : origin_of found.title ≡ titles.title_origin names in_table t.title t.is_joined

-- the tail is returned, if there is one
abbrev pub ReadsTail : EntityNames → Bool → Option tail.LinkTail → Option LinkTail → Type 0
ReadsTail names in_table None None = Unit {0}
ReadsTail names in_table None (Some found) = ⊥
ReadsTail names in_table (Some t) None = ⊥
ReadsTail names in_table (Some t) (Some found) = IsTail names in_table t found

-- the destination is a slice of the source, if nothing in it is replaced
abbrev pub BorrowsTail : Option tail.LinkTail → Option LinkTail → Type 0
BorrowsTail None found = Unit {0}
BorrowsTail (Some t) None = Unit {0}
BorrowsTail (Some t) (Some found) = text_of found.destination ≡ t.destination → IsBorrowed found.destination
