-- The text that an `InlineStr` holds.
use Rattle.std.specs.Prelude.{ℕ, List, take}
use Rattle.markdown_base.specs.declared.inline_str.InlineStr.{InlineStr}

-- the bytes in use
abbrev pub inline_text : InlineStr → List ℕ
inline_text held = take held.len held.bytes
