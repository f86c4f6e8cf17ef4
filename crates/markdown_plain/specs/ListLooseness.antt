-- What makes lists loose (CommonMark 5.3), by what is open: where blank lines were.
use Rattle.std.specs.Prelude.{ℕ, Bool, true, false, nat_lt, List, Option, Some, None, length, min}
use Rattle.markdown_base.specs.declared.item.ItemBody.{ItemBody}
use Rattle.markdown_base.specs.declared.item.ItemBody.TheVariants as body
use Rattle.markdown_builder.specs.declared.open_block.OpenBlock.{OpenBlock}

-- the body is that of an item
abbrev pub is_item : ItemBody → Bool
is_item (body.ListItem indent) = true
is_item other = false

-- The innermost of the open blocks had a blank line after the last line that was not blank: the open blocks from this
-- number on had one.
abbrev pub is_after_blank : Option ℕ → List OpenBlock → Bool
is_after_blank None blocks = false
is_after_blank (Some from) blocks = nat_lt from (length blocks)

-- the number from which on the open blocks had a blank line, after one more line that was blank from a number on
abbrev pub blank_from : Option ℕ → ℕ → ℕ
blank_from None from = from
blank_from (Some before) from = min before from
