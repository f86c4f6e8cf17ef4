-- What the characters of a pair become, by what is read.
use Rattle.std.specs.Prelude.{ℕ, zero, suc, Bool, true, false, List, [], Option, Some, None, slice_index}
use Rattle.std.specs.Prelude.{slice_range}
use Rattle.markdown_base.specs.Event.{TagView, emphasis, strong, strikethrough, superscript, subscript}
use Rattle.markdown_base.specs.declared.item.ItemBody.TheVariants as body
use Rattle.markdown_base.specs.declared.syntax.Syntax.{Syntax}
use Rattle.markdown_document.specs.Document.{Shape, enclosed, unresolved, Part, TreeNode, text_over}
use Rattle.markdown_delims.specs.declared.extensions.Extensions.{Extensions}
use Rattle.markdown_delims.specs.declared.run.Delimiter.{Delimiter}
use Rattle.markdown_delims.specs.declared.run.Delimiter.TheVariants.{Star, Underscore, Tilde, Caret}
use Rattle.markdown_delims.specs.declared.run.Run.{Run}
use Rattle.markdown_delims.specs.MayPair.{delimiter_of}

-- the marks of a syntax
abbrev pub extensions_of : Syntax → Extensions
extensions_of syntax = record {
  strikethrough = syntax.strikethrough;
  superscript = syntax.superscript;
  subscript = syntax.subscript;
}

-- a mark if it is enabled, and otherwise another shape
abbrev pub enclosed_if : (is_on : Bool) → TagView → Shape → Shape
enclosed_if true tag other = enclosed tag []
enclosed_if false tag other = other

-- the shape of a layer of two characters over these bytes; a layer that is not a mark is a Text of all of them
abbrev pub layer_of_two : Extensions → Delimiter → List ℕ → Shape
layer_of_two m Star source = enclosed strong []
layer_of_two m Underscore source = enclosed strong []
layer_of_two m Tilde source = enclosed_if m.strikethrough strikethrough (text_over source)
layer_of_two m Caret source = enclosed_if m.superscript superscript (text_over source)

-- the shape of a layer of one character over these bytes
abbrev pub layer_of_one : Extensions → Delimiter → List ℕ → Shape
layer_of_one m Star source = enclosed emphasis []
layer_of_one m Underscore source = enclosed emphasis []
layer_of_one m Tilde source =
    enclosed_if m.subscript subscript (enclosed_if m.strikethrough strikethrough (text_over source))
layer_of_one m Caret source = enclosed_if m.superscript superscript (text_over source)

-- the node of an opener's character with another shape, extended to the end of a closer's character
abbrev pub spanned : {A : Type 0} → List ℕ → (List ℕ → Shape) → TreeNode A → TreeNode A → TreeNode A
spanned source shape opener closer = record {
  note = opener.note;
  part = record {
    shape = shape (slice_range source opener.part.range.start closer.part.range.end);
    range = record { start = opener.part.range.start; end = closer.part.range.end };
    block = opener.part.block;
  };
}

-- a run of `count` characters; none if the count is zero
abbrev pub run_by : ℕ → Bool → Bool → Option Delimiter → Option Run
run_by count opens closes None = None
run_by zero opens closes (Some d) = None
run_by (suc n) opens closes (Some d) =
    Some (record { delimiter = d; length = suc n; can_open = opens; can_close = closes })

-- the run of a shape, if it is open
abbrev pub run_of_shape : Shape → Option Delimiter → Option Run
run_of_shape (unresolved (body.MaybeEmphasis count opens closes)) d = run_by count opens closes d
run_of_shape other d = None

-- the run that a part's character begins
abbrev pub run_of : List ℕ → Part → Option Run
run_of source part = run_of_shape part.shape (delimiter_of (slice_index source part.range.start))
