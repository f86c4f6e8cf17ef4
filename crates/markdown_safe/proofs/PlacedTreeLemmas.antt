-- Elements of a tree stand where the turns of its tags say.
use Rattle.std.proofs.Common.{◌≡◌, ◌++◌, ℕ, true, List, [], ◌∷◌, refl, append_assoc, append-nil}
use Rattle.std.specs.List.{flat_map}
use Rattle.markdown_safe.specs.SafeHtml.{HtmlPiece, end_tag}
use Rattle.markdown_safe.specs.HtmlTree.{HtmlTree, tree_end, tree_text, element, void_element, tree_pieces}
use Rattle.markdown_safe.specs.PlacedTree.{may_stand, is_placed, IsPlacedTree}
use Rattle.markdown_safe.proofs.SafeHtmlLemmas.{Turn, opens, closes, turns_of}
use Rattle.markdown_safe.proofs.HtmlTreeLemmas.{TurnsTo, IsTreeOf}

-- where these elements are open, the innermost first, each that the turns open may stand where it does
abbrev pub PlacedFrom : (around : List (List ℕ)) → List Turn → Type 0
PlacedFrom around [] = Unit {0}
PlacedFrom around (opens name ∷ turns) = (may_stand name around ≡ true) × PlacedFrom (name ∷ around) turns
PlacedFrom [] (closes name ∷ turns) = PlacedFrom [] turns
PlacedFrom (innermost ∷ around) (closes name ∷ turns) = PlacedFrom around turns

-- turns after turns
pub placed-append : (around : List (List ℕ)) (ts : List Turn) (between : List (List ℕ)) (us : List Turn)
    → TurnsTo around ts between → PlacedFrom around ts → PlacedFrom between us → PlacedFrom around (ts ++ us)
placed-append around [] between us h p q = rw h q
placed-append around (opens name ∷ ts) between us h p q = (p.0, placed-append (name ∷ around) ts between us h p.1 q)
placed-append [] (closes name ∷ ts) between us h p q = absurd h
placed-append (innermost ∷ around) (closes name ∷ ts) between us h p q = placed-append around ts between us h.1 p q

-- so are the elements of a tree whose turns are the first of these, and so are the turns left
placed_tree : (t : HtmlTree) (around : List (List ℕ)) (left : List HtmlPiece)
    → PlacedFrom around (flat_map turns_of (tree_pieces t ++ left))
    → (is_placed around t ≡ true) × PlacedFrom around (flat_map turns_of left)
placed_tree tree_end around left p = (refl, p)
placed_tree (tree_text c after) around left p = placed_tree after around left p
placed_tree (element name attributes inside after) around left p =
    let q = placed_tree inside (name ∷ around) (end_tag name ∷ (tree_pieces after ++ left))
    (rw (← append_assoc (tree_pieces inside) (end_tag name ∷ tree_pieces after) left) p.1) in
    let r = placed_tree after around left q.1 in
    (rw (p.0, q.0, r.0) refl, r.1)
placed_tree (void_element name attributes ends after) around left p = placed_tree after around left p

-- a safe tree whose tags open each element where it may stand is placed
pub tree_is_placed : {html : List ℕ} {turns : List Turn} → IsTreeOf html turns → PlacedFrom [] turns
    → IsPlacedTree html
tree_is_placed {html} {turns} t placed = record {
  whole = t.whole;
  placed = (placed_tree t.whole.tree [] [] (rw (append-nil (tree_pieces t.whole.tree), t.does) placed)).0;
}
