-- Where the text of a `CowStr` is stored that is not inline: on the heap, or in the source.
use Rattle.std.specs.Prelude.{◌≤◌, IfSome, length}
use Rattle.markdown_base.specs.declared.cow_str.CowStr.{CowStr}
use Rattle.markdown_base.specs.declared.cow_str.CowStr.TheVariants.{Boxed, Borrowed}
use Rattle.markdown_base.specs.CowText.{text_of}
use Rattle.markdown_base.specs.declared.block_parts.LinkDef.{LinkDef}

-- the text is owned, on the heap
abbrev pub IsBoxed : CowStr → Type 0
IsBoxed (Boxed boxed) = Unit {0}
IsBoxed text = ⊥

-- the text is a slice of the source
abbrev pub IsBorrowed : CowStr → Type 0
IsBorrowed (Borrowed borrowed) = Unit {0}
IsBorrowed text = ⊥

-- each of its texts that has this form can be stored inline
pub record HasShortTexts (form : CowStr → Type 0) (d : LinkDef) : Type 0 where
  pub destination : form d.dest → length (text_of d.dest) ≤ 22
  pub title : IfSome d.title (λ title. form title → length (text_of title) ≤ 22)
