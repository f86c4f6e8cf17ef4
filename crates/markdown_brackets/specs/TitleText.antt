-- The text of a title while it is read.
use Rattle.std.specs.Prelude.{ℕ, List, ◌++◌, slice_range, string_bytes}
use Rattle.markdown_brackets.specs.declared.title_text.TitleText.{TitleText}

-- the source text of a title to a byte offset, with lines joined
abbrev pub so_far : TitleText → ℕ → List ℕ
so_far t at = string_bytes t.joined ++ slice_range t.text.now t.from at
