-- Pieces whose tags nest are those of a tree.
use Rattle.std.proofs.Common.{◌≡◌, ◌++◌, ℕ, true, List, [], ◌∷◌, refl, sym, ap, ◌∙◌, append_assoc, subst}
use Rattle.std.specs.List.{flat_map, list_all}
use Rattle.markdown_safe.specs.SafeHtml.{Attribute, HtmlPiece, character, start_tag, end_tag, void_tag, bytes_of_piece}
use Rattle.markdown_safe.specs.SafeHtml.{is_safe_piece}
use Rattle.markdown_safe.specs.HtmlTree.{HtmlTree, tree_end, tree_text, element, void_element, tree_pieces, IsSafeTree}
use Rattle.markdown_safe.proofs.SafeHtmlLemmas.{Turn, opens, closes, turns_of, IsMarkup}

-- where these elements are open, the innermost first, these turns leave those open
abbrev pub TurnsTo : (around : List (List ℕ)) → List Turn → (later : List (List ℕ)) → Type 0
TurnsTo around [] later = around ≡ later
TurnsTo around (opens name ∷ turns) later = TurnsTo (name ∷ around) turns later
TurnsTo [] (closes name ∷ turns) later = ⊥
TurnsTo (innermost ∷ around) (closes name ∷ turns) later = (name ≡ innermost) × TurnsTo around turns later

-- turns after turns
pub turns-append : (around : List (List ℕ)) (ts : List Turn) (between : List (List ℕ)) (us : List Turn)
    (later : List (List ℕ)) → TurnsTo around ts between → TurnsTo between us later → TurnsTo around (ts ++ us) later
turns-append around [] between us later h k = subst (λ x. TurnsTo x us later) (sym h) k
turns-append around (opens name ∷ ts) between us later h k = turns-append (name ∷ around) ts between us later h k
turns-append [] (closes name ∷ ts) between us later h k = absurd h
turns-append (innermost ∷ around) (closes name ∷ ts) between us later h k =
    (h.0, turns-append around ts between us later h.1 k)

-- the pieces close these elements in turn: a tree, then the end tag of the innermost, a tree, and so on
abbrev CloseInTurn : (around : List (List ℕ)) → List HtmlPiece → Type 0
CloseInTurn [] pieces = (t : HtmlTree) × (pieces ≡ tree_pieces t)
CloseInTurn (name ∷ around) pieces = (t : HtmlTree) × (rest : List HtmlPiece)
    × (pieces ≡ tree_pieces t ++ end_tag name ∷ rest) × CloseInTurn around rest

-- pieces that stand before any tree
before_tree : (around : List (List ℕ)) (more rest : List HtmlPiece) (onto : HtmlTree → HtmlTree)
    → ((t : HtmlTree) → tree_pieces (onto t) ≡ more ++ tree_pieces t) → CloseInTurn around rest
    → CloseInTurn around (more ++ rest)
before_tree [] more rest onto same (t, e) = (onto t, ap (λ l. more ++ l) e ∙ sym (same t))
before_tree (name ∷ around) more rest onto same (t, left, e, others) = (
  onto t,
  left,
  ap (λ l. more ++ l) e ∙ (sym (append_assoc more (tree_pieces t) (end_tag name ∷ left))
      ∙ ap (λ l. l ++ end_tag name ∷ left) (sym (same t))),
  others,
)

-- an element
element_closes : (around : List (List ℕ)) (name : List ℕ) (attributes : List Attribute) (pieces : List HtmlPiece)
    → CloseInTurn (name ∷ around) pieces → CloseInTurn around (start_tag name attributes ∷ pieces)
element_closes around name attributes pieces (inside, rest, e, others) =
    subst (λ l. CloseInTurn around (start_tag name attributes ∷ l)) (sym e)
    (subst (λ l. CloseInTurn around (start_tag name attributes ∷ l))
    (append_assoc (tree_pieces inside) (end_tag name ∷ []) rest)
    (before_tree around (start_tag name attributes ∷ (tree_pieces inside ++ end_tag name ∷ [])) rest
    (λ after. element name attributes inside after)
    (λ t. ap (λ l. start_tag name attributes ∷ l)
    (sym (append_assoc (tree_pieces inside) (end_tag name ∷ []) (tree_pieces t)))) others))

-- an end tag
tag_closes : (around : List (List ℕ)) (name : List ℕ) (pieces : List HtmlPiece) (turns : List Turn)
    → TurnsTo around (closes name ∷ turns) []
    → ((more : List (List ℕ)) → TurnsTo more turns [] → CloseInTurn more pieces)
    → CloseInTurn around (end_tag name ∷ pieces)
tag_closes [] name pieces turns h goes_on = absurd h
tag_closes (innermost ∷ around) name pieces turns h goes_on = (
  tree_end,
  pieces,
  ap (λ n. end_tag n ∷ pieces) h.0,
  goes_on around h.1,
)

-- pieces by which all that is open is closed
closes_in_turn : (pieces : List HtmlPiece) (around : List (List ℕ)) → TurnsTo around (flat_map turns_of pieces) []
    → CloseInTurn around pieces
closes_in_turn [] around h = subst (λ o. CloseInTurn o []) (sym h) (tree_end, refl)
closes_in_turn (character c ∷ pieces) around h =
    before_tree around (character c ∷ []) pieces (λ after. tree_text c after) (λ t. refl)
    (closes_in_turn pieces around h)
closes_in_turn (start_tag name attributes ∷ pieces) around h =
    element_closes around name attributes pieces (closes_in_turn pieces (name ∷ around) h)
closes_in_turn (end_tag name ∷ pieces) around h =
    tag_closes around name pieces (flat_map turns_of pieces) h (λ more k. closes_in_turn pieces more k)
closes_in_turn (void_tag name attributes ends ∷ pieces) around h =
    before_tree around (void_tag name attributes ends ∷ []) pieces (λ after. void_element name attributes ends after)
    (λ t. refl) (closes_in_turn pieces around h)

-- these bytes are a safe tree, whose tags do this
pub record IsTreeOf (html : List ℕ) (turns : List Turn) : Type 0 where
  pub whole : IsSafeTree html
  pub does : flat_map turns_of (tree_pieces whole.tree) ≡ turns

-- markup whose tags nest is a safe tree
pub tree_of_markup : {turns : List Turn} (html : List ℕ) → IsMarkup html turns → TurnsTo [] turns []
    → IsTreeOf html turns
tree_of_markup {turns} html m nests =
    let t = closes_in_turn m.pieces [] (subst (λ ts. TurnsTo [] ts []) (sym m.does) nests) in record {
      whole = record {
        tree = t.0;
        are = subst (λ l. html ≡ flat_map bytes_of_piece l) t.1 m.are;
        safe = subst (λ l. list_all is_safe_piece l ≡ true) t.1 m.safe;
      };
      does = subst (λ l. flat_map turns_of l ≡ turns) t.1 m.does;
    }
