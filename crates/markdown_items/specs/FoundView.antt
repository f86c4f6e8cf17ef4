-- What begins at a special byte of a line's content, as definitions describe it. Numbers are the byte offsets in the
-- text at which it ends.
use Rattle.std.specs.Prelude.{ℕ, List}
use Rattle.markdown_base.specs.declared.item.ItemBody.{ItemBody}
use Rattle.markdown_items.specs.declared.flanking.Flags.{Flags}
use Rattle.markdown_items.specs.declared.found.Found.{Found}
use Rattle.markdown_items.specs.declared.found.Found.TheVariants as variant
use Rattle.markdown_scan.specs.Entity.{text_in_utf8}

-- text, up to an offset at least; a backslash that is in no item; an open item of one byte; a `![`; backticks, perhaps
-- after a backslash that is in no item; a delimiter run; an entity, with its characters in UTF-8; hyphens that are
-- dashes; or three dots
pub data FoundView : Type 0 where
  Text : ℕ → FoundView
  Escape : FoundView
  Mark : ItemBody → FoundView
  Image : FoundView
  Backticks : ℕ → FoundView
  EscapedBackticks : ℕ → FoundView
  DelimiterRun : ℕ → Flags → FoundView
  Entity : ℕ → List ℕ → FoundView
  Dashes : ℕ → FoundView
  Ellipsis : FoundView

abbrev pub found_view : Found → FoundView
found_view (variant.Text next) = Text next
found_view variant.Escape = Escape
found_view (variant.Mark body) = Mark body
found_view variant.Image = Image
found_view (variant.Backticks stop) = Backticks stop
found_view (variant.EscapedBackticks stop) = EscapedBackticks stop
found_view (variant.Run stop flags) = DelimiterRun stop flags
found_view (variant.Entity stop characters) = Entity stop (text_in_utf8 characters)
found_view (variant.Dashes stop) = Dashes stop
found_view variant.Ellipsis = Ellipsis
