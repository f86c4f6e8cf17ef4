-- A chain of nodes as the rules read it: each node as an item, and what is left of a chain past a byte offset where
-- something that was found ends.
use Rattle.std.specs.Prelude.{ℕ, ◌-◌, Bool, false, ◌==◌, max, List, ◌∷◌, drop, Option, Some, None}
use Rattle.std.specs.Prelude.{if◌then◌else◌, nat_le}
use Rattle.markdown_base.specs.Event.{EventView, start, end, text, code, inline_math, display_math, html, inline_html}
use Rattle.markdown_base.specs.Event.{footnote_reference, soft_break, hard_break, rule, task_list_marker}
use Rattle.markdown_base.specs.Forest.{Forest, nil, node}
use Rattle.markdown_base.specs.declared.item.Item.{Item}
use Rattle.markdown_base.specs.declared.item.ItemBody.{ItemBody}
use Rattle.markdown_base.specs.declared.item.ItemBody.TheVariants as body
use Rattle.markdown_document.specs.Document.{Origin, sliced, Shape, leaf, unresolved, TreeNode}

-- where a node's range starts
abbrev pub start_of : {A : Type 0} → TreeNode A → ℕ
start_of a = a.part.range.start

-- where a node's range ends
abbrev pub end_of : {A : Type 0} → TreeNode A → ℕ
end_of a = a.part.range.end

-- one chain after another
abbrev pub joined_chains : {A : Type 0} → Forest A → Forest A → Forest A
joined_chains nil others = others
joined_chains (node a below after) others = node a below (joined_chains after others)

-- the body of a shape as the rules read it: what is not open counts as a Text
abbrev pub open_body : Shape → ItemBody
open_body (unresolved b) = b
open_body other = body.Text false

-- a node as an item
abbrev pub as_item : {A : Type 0} → TreeNode A → Item
as_item a = record { start = start_of a; end = end_of a; body = open_body a.part.shape }

-- there is a next item, and it starts at byte offset i
abbrev pub next_starts_at : {A : Type 0} → ℕ → Forest (TreeNode A) → Bool
next_starts_at i nil = false
next_starts_at i (node a below after) = start_of a == i

-- an event whose text is a slice of the source, without its first n bytes; other events stay as they are
abbrev pub without_first : ℕ → EventView → EventView
without_first n (text bytes) = text (drop n bytes)
without_first n (html bytes) = html (drop n bytes)
without_first n (inline_html bytes) = inline_html (drop n bytes)
without_first n (start tag) = start tag
without_first n (end tag) = end tag
without_first n (code bytes) = code bytes
without_first n (inline_math bytes) = inline_math bytes
without_first n (display_math bytes) = display_math bytes
without_first n (footnote_reference name) = footnote_reference name
without_first n soft_break = soft_break
without_first n hard_break = hard_break
without_first n rule = rule
without_first n (task_list_marker done) = task_list_marker done

-- an event without the first n bytes of its text, where that is a slice of the source
abbrev pub cut_event : ℕ → EventView → List Origin → EventView
cut_event n e (sliced ∷ origins) = without_first n e
cut_event n e other = e

-- a shape without its first n bytes
abbrev pub cut_shape : ℕ → Shape → Shape
cut_shape n (leaf e origins) = leaf (cut_event n e origins) origins
cut_shape n other = other

-- a node without its bytes before byte offset i
abbrev pub begun_at : {A : Type 0} → ℕ → TreeNode A → TreeNode A
begun_at i a = record {
  note = a.note;
  part = record {
    shape = cut_shape (i - start_of a) a.part.shape;
    range = record { start = max (start_of a) i; end = end_of a };
    block = a.part.block;
  };
}

-- what is left of a chain past byte offset i: nodes that end there or before are left out, and the first that is left
-- loses its bytes before it
abbrev pub past_byte : {A : Type 0} → ℕ → Forest (TreeNode A) → Forest (TreeNode A)
past_byte i nil = nil
past_byte i (node a below after) = if nat_le (end_of a) i then past_byte i after else node (begun_at i a) below after

-- what is left of a chain past the offset where what was found ends; where nothing was found, the whole chain
abbrev pub past : {A : Type 0} → Option ℕ → Forest (TreeNode A) → Forest (TreeNode A)
past None chain = chain
past (Some i) chain = past_byte i chain
