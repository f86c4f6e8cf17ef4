-- Which paragraphs are tight (CommonMark 5.3): those directly in the items of a tight list, and no others.
use Rattle.std.specs.Prelude.{◌≡◌, ℕ, Bool, true, false, List, Option, Some}
use Rattle.markdown_base.specs.declared.item.Item.{Item}
use Rattle.markdown_base.specs.declared.item.ItemBody.{ItemBody}
use Rattle.markdown_base.specs.declared.item.ItemBody.TheVariants as body
use Rattle.markdown_base.specs.declared.node.Node.{Node}
use Rattle.markdown_base.specs.Arena.{child_of, sibling_of}
use Rattle.markdown_base.specs.BlockTree.{item_at}

-- the body is that of a tight list
abbrev pub is_tight_list : ItemBody → Bool
is_tight_list (body.List true marker first) = true
is_tight_list other = false

-- a number is in the chain from a link on
pub data IsInChain (nodes : List (Node Item)) : Option ℕ → ℕ → Type 0 where
  first_of : (p : ℕ) → IsInChain nodes (Some p) p
  later_in : (q p : ℕ) → IsInChain nodes (sibling_of nodes q) p → IsInChain nodes (Some q) p

-- a number is directly in an item of a list
pub record IsInItemOf (nodes : List (Node Item)) (list p : ℕ) : Type 0 where
  pub item : ℕ
  pub listed : IsInChain nodes (child_of nodes list) item
  pub inside : IsInChain nodes (child_of nodes item) p

-- a number is directly in an item of a tight list
pub record IsInTightList (nodes : List (Node Item)) (p : ℕ) : Type 0 where
  pub list : ℕ
  pub tight : is_tight_list (item_at nodes list).body ≡ true
  pub inside : IsInItemOf nodes list p

-- each paragraph directly in an item of a tight list is tight, and no other
pub record TightInTightLists (nodes : List (Node Item)) : Type 0 where
  pub all : (p : ℕ) → IsInTightList nodes p → (item_at nodes p).body ≡ body.Paragraph → ⊥
  pub only : (p : ℕ) → (item_at nodes p).body ≡ body.TightParagraph → IsInTightList nodes p
