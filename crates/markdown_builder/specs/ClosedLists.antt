-- What holds of the lists of a tree in progress: a tight list is open, or it is closed, and the paragraphs directly in
-- its items are tight. Only private clauses cite this.
use Rattle.std.specs.Prelude.{◌≡◌, ℕ, ◌<◌, ◌≤◌, ◌⊎◌, true, List, Option, length, IfSome}
use Rattle.std.specs.List.{AllByRecursion}
use Rattle.markdown_base.specs.declared.item.Item.{Item}
use Rattle.markdown_base.specs.declared.item.ItemBody.TheVariants as body
use Rattle.markdown_base.specs.declared.node.Node.{Node}
use Rattle.markdown_base.specs.Arena.{Arena, child_of}
use Rattle.markdown_base.specs.BlockTree.{item_at}
use Rattle.markdown_builder.specs.Tightness.{is_tight_list, IsInChain, IsInItemOf}

-- the node was not entered, or was left
abbrev pub IsNotOpen : List ℕ → ℕ → Type 0
IsNotOpen spine number = AllByRecursion (λ s. s ≡ number → ⊥) spine

-- a list is closed: what it holds ends before a number, no node from its own up to that is open, and its paragraphs are
-- tight
pub record IsClosed (nodes : List (Node Item)) (spine : List ℕ) (cursor : Option ℕ) (list : ℕ) : Type 0 where
  pub end : ℕ
  pub low : list < end
  pub high : end ≤ length nodes
  pub around : AllByRecursion (λ s. (s < list) ⊎ (end ≤ s)) spine
  pub focus : IfSome cursor (λ c. (c ≤ list) ⊎ (end ≤ c))
  pub items : (item : ℕ) → IsInChain nodes (child_of nodes list) item → item < end
  pub inside : (p : ℕ) → IsInItemOf nodes list p → p < end
  pub tight : (p : ℕ) → IsInItemOf nodes list p → (item_at nodes p).body ≡ body.Paragraph → ⊥

-- a number is directly in an item of a tight list that is closed
pub record IsInClosedList (nodes : List (Node Item)) (spine : List ℕ) (p : ℕ) : Type 0 where
  pub list : ℕ
  pub tight : is_tight_list (item_at nodes list).body ≡ true
  pub closed : IsNotOpen spine list
  pub inside : IsInItemOf nodes list p

-- a tight list is open or closed, and only paragraphs of closed ones are tight
pub record ListsAreTight (tree : Arena Item) : Type 0 where
  pub lists : (list : ℕ) → is_tight_list (item_at tree.nodes list).body ≡ true → IsNotOpen tree.spine list
      → IsClosed tree.nodes tree.spine tree.cursor list
  pub only : (p : ℕ) → (item_at tree.nodes p).body ≡ body.TightParagraph → IsInClosedList tree.nodes tree.spine p
