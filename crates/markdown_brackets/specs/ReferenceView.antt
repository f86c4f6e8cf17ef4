-- Labels, and the form of a reference, as contracts describe them.
use Rattle.std.specs.Prelude.{◌≡◌, ℕ, ◌-◌, Bool, true, false, List, slice_range, take}
use Rattle.markdown_base.specs.CowText.{text_of}
use Rattle.markdown_base.specs.StoredTexts.{IsBorrowed}
use Rattle.markdown_brackets.specs.Reference as def
use Rattle.markdown_brackets.specs.declared.reference.Form.{Form}
use Rattle.markdown_brackets.specs.declared.reference.Form.TheVariants.{Reference, Collapsed, Shortcut}
use Rattle.markdown_brackets.specs.declared.reference.FoundLabel.{FoundLabel}

-- a label, by the bytes of its text
abbrev pub label_view : FoundLabel → def.FoundLabel
label_view l = record { is_footnote = l.is_footnote; length = l.length; name = text_of l.name }

-- the text of a label is a slice of the source, if it equals the source text of the label, which these bytes begin
-- with: those after the label's first `before` bytes
abbrev pub BorrowsLabel : ℕ → List ℕ → FoundLabel → Type 0
BorrowsLabel before bytes l = text_of l.name ≡ take (l.length - before - 1) bytes → IsBorrowed l.name

-- the offset of the name in a label
abbrev pub name_start : Bool → ℕ
name_start true = 2
name_start false = 1

-- the text of a label is a slice of the source, if it equals the source text between the label's brackets
abbrev pub BorrowsName : List ℕ → FoundLabel → Type 0
BorrowsName text l = text_of l.name ≡ slice_range text (name_start l.is_footnote) (l.length - 1) → IsBorrowed l.name

-- a form, by the bytes of its label
abbrev pub form_view : Form → def.Form
form_view (Reference label end) = def.reference (text_of label) end
form_view Collapsed = def.collapsed
form_view Shortcut = def.shortcut
