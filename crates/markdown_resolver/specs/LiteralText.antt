-- What is written while a chain is read: an item at which nothing is found becomes literal text, and what is left of a
-- chain past
-- a byte offset begins there.
use Rattle.markdown_base.specs.declared.item.ItemBody.TheVariants as body
use Rattle.std.specs.Prelude.{◌≡◌, ℕ, Bool, true, false, not, ◌&&◌, List, length, Option, Some, None}
use Rattle.markdown_base.specs.Arena.{child_of, sibling_of}
use Rattle.markdown_base.specs.ArenaChanges.{changed_at}
use Rattle.markdown_base.specs.BlockTree.{item_at}
use Rattle.markdown_base.specs.Item.{is_open}
use Rattle.markdown_base.specs.declared.item.Item.{Item}
use Rattle.markdown_base.specs.declared.item.ItemBody.{ItemBody}
use Rattle.markdown_base.specs.declared.node.Node.{Node}
use Rattle.markdown_document.specs.PlacedNodes.{IsSameAt}
use Rattle.markdown_document.specs.Waiting.{waits_for_pairing}
use Rattle.markdown_resolver.specs.Rewritten.{begun_item}

-- the item becomes a Text where nothing is found: it is open, and does not wait for pairing
abbrev pub becomes_text : ItemBody → Bool
becomes_text b = is_open b && not (waits_for_pairing b)

-- the body of a Text where the condition is true, and otherwise the body as it was
abbrev pub literal_if : (becomes_text : Bool) → ItemBody → ItemBody
literal_if true b = body.Text false
literal_if false b = b

-- the literal item
abbrev pub literal_item : Item → Item
literal_item item = record item { body = literal_if (becomes_text item.body) item.body }

-- nodes of which the item of one becomes literal text
abbrev pub literal_at : ℕ → List (Node Item) → List (Node Item)
literal_at ix nodes = changed_at ix (λ n. record n { item = literal_item (item_at nodes ix) }) nodes

-- nodes of which the item that a link leads to loses its bytes before byte offset i
abbrev pub begun_from : Option ℕ → ℕ → List (Node Item) → List (Node Item)
begun_from None i nodes = nodes
begun_from (Some ix) i nodes = changed_at ix (λ n. record n { item = begun_item i (item_at nodes ix) }) nodes

-- a node has another item, and another next sibling; all else is unchanged
pub record IsWritten (old new : List (Node Item)) (ix : ℕ) (item : Item) (next : Option ℕ) : Type 0 where
  pub size : length new ≡ length old
  pub item_is : item_at new ix ≡ item
  pub child_is : child_of new ix ≡ child_of old ix
  pub next_is : sibling_of new ix ≡ next
  pub others : (n : ℕ) → (n ≡ ix → ⊥) → IsSameAt old new n
