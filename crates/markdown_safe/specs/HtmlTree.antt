-- Safe HTML as a tree: each end tag is that of the last element that is open, and no element is left open. Such HTML
-- closes no element of the page that it is put into.
use Rattle.std.specs.Prelude.{◌≡◌, ℕ, true, List, [], ◌∷◌, ◌++◌}
use Rattle.std.specs.List.{flat_map, list_all}
use Rattle.markdown_safe.specs.SafeHtml.{Character, Attribute, HtmlPiece, character, start_tag, end_tag, void_tag}
use Rattle.markdown_safe.specs.SafeHtml.{bytes_of_piece}
use Rattle.markdown_safe.specs.SafeHtml.{is_safe_piece}

-- a tree of elements, one after another
pub data HtmlTree : Type 0 where
  tree_end : HtmlTree
  -- a character of text, and what comes after it
  tree_text : Character → (after : HtmlTree) → HtmlTree
  -- an element with an end tag, by its name and its attributes; what it holds; and what comes after it
  element : List ℕ → List Attribute → (inside after : HtmlTree) → HtmlTree
  -- an element without an end tag, by its name, its attributes, and how its tag ends; and what comes after it
  void_element : List ℕ → List Attribute → List ℕ → (after : HtmlTree) → HtmlTree

-- the pieces of a tree
abbrev pub tree_pieces : HtmlTree → List HtmlPiece
tree_pieces tree_end = []
tree_pieces (tree_text c after) = character c ∷ tree_pieces after
tree_pieces (element name attributes inside after) =
    start_tag name attributes ∷ (tree_pieces inside ++ end_tag name ∷ tree_pieces after)
tree_pieces (void_element name attributes ends after) = void_tag name attributes ends ∷ tree_pieces after

-- these bytes are safe pieces, and a tree of them
pub record IsSafeTree (html : List ℕ) : Type 0 where
  pub tree : HtmlTree
  pub are : html ≡ flat_map bytes_of_piece (tree_pieces tree)
  pub safe : list_all is_safe_piece (tree_pieces tree) ≡ true
