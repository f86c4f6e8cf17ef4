-- The text of a `CowStr`: its bytes, wherever they are stored.
use Rattle.std.specs.Prelude.{ℕ, List}
use Rattle.std.specs.Box.{boxed_str_bytes}
use Rattle.markdown_base.specs.InlineText.{inline_text}
use Rattle.markdown_base.specs.declared.cow_str.CowStr.{CowStr}
use Rattle.markdown_base.specs.declared.cow_str.CowStr.TheVariants.{Boxed, Borrowed, Inlined}

-- the bytes of the text
abbrev pub text_of : CowStr → List ℕ
text_of (Boxed boxed) = boxed_str_bytes boxed
text_of (Borrowed borrowed) = borrowed.now
text_of (Inlined inlined) = inline_text inlined

-- the text is stored inline
abbrev pub IsInlined : CowStr → Type 0
IsInlined (Inlined inlined) = Unit {0}
IsInlined text = ⊥
