-- What a builder changes in its tree in several steps: tight paragraphs, and the characters of a delimiter run.
use Rattle.std.specs.Prelude.{◌≡◌, ℕ, zero, suc, ◌+◌, ◌-◌, ◌<◌, ◌≤◌, ◌⊎◌, Bool, true, false, List, ◌++◌, length}
use Rattle.std.specs.Prelude.{Option, None}
use Rattle.markdown_base.specs.declared.item.Item.{Item}
use Rattle.markdown_base.specs.declared.item.ItemBody.{ItemBody}
use Rattle.markdown_base.specs.declared.item.ItemBody.TheVariants as body
use Rattle.markdown_base.specs.declared.node.Node.{Node}
use Rattle.markdown_base.specs.Arena.{Arena, child_of}
use Rattle.markdown_base.specs.ArenaChanges.{appended}
use Rattle.markdown_base.specs.ArenaForest.{links_of}
use Rattle.markdown_base.specs.BlockTree.{item_at}
use Rattle.markdown_base.specs.Forest.{Forest}
use Rattle.markdown_builder.specs.Levels.{link, laid}
use Rattle.markdown_builder.specs.Rising.{link_of}
use Rattle.markdown_builder.specs.Standing.{with_item}
use Rattle.markdown_builder.specs.TreeLevels.{items_tightened, run_item}
use Rattle.markdown_builder.specs.Tightness.{is_tight_list, IsInItemOf}

-- the body is that of a paragraph which is not tight
abbrev pub is_paragraph : ItemBody → Bool
is_paragraph body.Paragraph = true
is_paragraph other = false

-- a paragraph made tight
abbrev pub tight : Item → Item
tight item = record { start = item.start; end = item.end; body = body.TightParagraph }

-- a forest that is laid out from a link on is changed in its place
pub record ChangesLaid (change : Forest Item → Forest Item) (first : Option ℕ) (old new : List (Node Item)) : Type 0
  where
    pub made : (front back : List (Node Item)) (f : Forest Item) → old ≡ front ++ (laid None (length front) f ++ back)
        → first ≡ link None (length front) f
        → new ≡ front ++ (laid None (length front) (change f) ++ back)

-- paragraphs from a number on are made tight, one after another
pub data Tightens (from : ℕ) (old : Arena Item) : Arena Item → Type 0 where
  none_tight : Tightens from old old
  one_tight : (tree : Arena Item) (number : ℕ) → Tightens from old tree → from ≤ number → number < length tree.nodes
      → is_paragraph (item_at tree.nodes number).body ≡ true
      → Tightens from old (with_item tree number (tight (item_at tree.nodes number)))

-- a paragraph whose number is in a set is tight now
pub record Tightened (S : ℕ → Type 0) (old new : List (Node Item)) (p : ℕ) : Type 0 where
  pub inside : S p
  pub was : (item_at old p).body ≡ body.Paragraph
  pub now : item_at new p ≡ tight (item_at old p)

-- the paragraphs whose numbers are in a set are tight now, except those that are left, and all else is unchanged
pub record MadeTight (S Left : ℕ → Type 0) (old new : List (Node Item)) : Type 0 where
  pub size : length new ≡ length old
  pub links : (d : Bool) (i : ℕ) → link_of (links_of new) d i ≡ link_of (links_of old) d i
  pub made : (p : ℕ) → S p → Left p ⊎ ((item_at new p).body ≡ body.Paragraph → ⊥)
  pub kept : (p : ℕ) → (item_at new p ≡ item_at old p) ⊎ Tightened S old new p

-- all paragraphs whose numbers are in a set are tight now, and all else is unchanged
abbrev pub MakesTight : (ℕ → Type 0) → List (Node Item) → List (Node Item) → Type 0
MakesTight S old new = MadeTight S (λ p. ⊥) old new

-- a Text for one byte
abbrev pub byte_text : ℕ → Item
byte_text at = record { start = at; end = at + 1; body = body.Text false }

-- an arena with `count` Texts appended, for the bytes from a byte offset on
abbrev pub texts_appended : Arena Item → ℕ → ℕ → Arena Item
texts_appended tree start zero = tree
texts_appended tree start (suc count) = appended (texts_appended tree start count) (byte_text (start + count))

-- an arena whose last `count` items are made the characters of a delimiter run that ends at byte offset `stop`
abbrev pub run_marked : Arena Item → ℕ → Bool → Bool → ℕ → Arena Item
run_marked tree stop opens closes zero = tree
run_marked tree stop opens closes (suc count) =
    with_item (run_marked tree stop opens closes count) (length tree.nodes - suc count)
    (run_item stop opens closes (suc count))

-- the paragraphs of a list are made tight, where it is a tight one
pub record TightensList (list : ℕ) (old new : Arena Item) : Type 0 where
  pub steps : Tightens list old new
  pub makes : is_tight_list (item_at old.nodes list).body ≡ true
      → MakesTight (IsInItemOf old.nodes list) old.nodes new.nodes
  pub laid : is_tight_list (item_at old.nodes list).body ≡ true
      → ChangesLaid items_tightened (child_of old.nodes list) old.nodes new.nodes
  pub same : is_tight_list (item_at old.nodes list).body ≡ false → new ≡ old
