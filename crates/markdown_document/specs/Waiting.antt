-- Which items of a chain wait for pairing, which follows pass one; and what an item becomes where nothing is found.
use Rattle.std.specs.Prelude.{ℕ, Bool, true, false, List}
use Rattle.markdown_base.specs.Item.{body_kind, is_delimiter_kind}
use Rattle.markdown_base.specs.declared.item.ItemBody.{ItemBody}
use Rattle.markdown_document.specs.Document.{Shape, unresolved, TreeNode, is_unresolved, as_text}

-- pairing decides about the item: it is a character of a delimiter run, or a quotation mark
abbrev pub waits_for_pairing : ItemBody → Bool
waits_for_pairing b = is_delimiter_kind (body_kind b)

-- pass one leaves a tree of this shape as it is: it is not open, or waits for pairing
abbrev pub is_quiet : Shape → Bool
is_quiet (unresolved b) = waits_for_pairing b
is_quiet other = true

-- a Text over the node's range where the condition is true, and otherwise the node as it was
abbrev pub text_if : {A : Type 0} → Bool → List ℕ → TreeNode A → TreeNode A
text_if true source a = as_text source a
text_if false source a = a

-- a node that is not open: an open one becomes a Text
abbrev pub as_closed : {A : Type 0} → List ℕ → TreeNode A → TreeNode A
as_closed source a = text_if (is_unresolved a.part.shape) source a
