-- What a closing bracket becomes, put in place: the terms of private contracts on the nodes from its opener on.
use Rattle.std.specs.Prelude.{◌≡◌, ℕ, zero, suc, ◌<◌, ◌≤◌, true, false, List, [], ◌∷◌, ◌++◌, Some, None, length}
use Rattle.std.specs.Str.{IsCharBoundary}
use Rattle.markdown_base.specs.Arena.{child_of, sibling_of}
use Rattle.markdown_base.specs.ArenaForest.{links_of, forest_at}
use Rattle.markdown_base.specs.BlockTree.{Numbered, item_at}
use Rattle.markdown_base.specs.Forest.{Forest, nil, node, roots}
use Rattle.markdown_base.specs.Item.{is_open}
use Rattle.markdown_base.specs.WellFormed.{run_character}
use Rattle.markdown_base.specs.declared.item.Item.{Item}
use Rattle.markdown_base.specs.declared.node.Node.{Node}
use Rattle.markdown_document.specs.ChainRest.{joined_chains, past, past_byte}
use Rattle.markdown_document.specs.Document.{Plain, tree_node_of}
use Rattle.markdown_document.specs.Places.{follows_pipe}
use Rattle.markdown_document.specs.PlacedNodes.{IsSameAt}
use Rattle.markdown_document.specs.Tables.{Tables}
use Rattle.markdown_document.specs.NamedEntries.{Named, times_named}
use Rattle.markdown_spans.specs.ChainInArena.{LeadsThrough}
use Rattle.markdown_resolver.specs.Chains.{CanResolve}
use Rattle.markdown_resolver.specs.Rewritten.{CanPut, IsRestPast, LeavesRest, MayBeCut, Rewrites, first_past}
use Rattle.markdown_resolver.specs.Rewritten.{numbered_past_byte}
use Rattle.markdown_resolver.specs.declared.continuation.Continuation.{Continuation}

-- the first k trees of a chain
abbrev pub first_trees : {A : Type 0} → ℕ → Forest A → Forest A
first_trees zero f = nil
first_trees (suc k) nil = nil
first_trees (suc k) (node a below after) = node a below (first_trees k after)

-- a chain without its first k trees
abbrev pub trees_past : {A : Type 0} → ℕ → Forest A → Forest A
trees_past zero f = f
trees_past (suc k) nil = nil
trees_past (suc k) (node a below after) = trees_past k after

-- the trees that replace an opener and what is inside
abbrev pub Enclosing : Type 0
Enclosing = Plain → (inside : Forest Plain) → Forest Plain

-- the first tree of a chain, which is an opener, the k trees inside, the `]` after them, and what follows up to a byte
-- offset are replaced by trees; a rule is applied to what is left
abbrev pub closed_over : (k : ℕ) → Enclosing → (goes_on : ℕ) → (Forest Plain → Forest Plain) → Forest Plain
    → Forest Plain
closed_over k trees goes_on rule nil = nil
closed_over k trees goes_on rule (node a below after) =
    joined_chains (trees a (first_trees k after)) (rule (past (Some goes_on) (trees_past (suc k) after)))

-- one item, with what is inside below it
abbrev pub over_inside : List ℕ → Tables → Item → Enclosing
over_inside source tables item a inside = node (tree_node_of source tables item) inside nil

-- one item, in place of all that is inside
abbrev pub in_place_of : List ℕ → Tables → Item → Enclosing
in_place_of source tables item a inside = node (tree_node_of source tables item) nil nil

-- one item, with a Text below it
abbrev pub over_text : List ℕ → Tables → (item text : Item) → Enclosing
over_text source tables item text a inside =
    node (tree_node_of source tables item) (node (tree_node_of source tables text) nil nil) nil

-- one item, with what a wikilink shows below it: what is inside, from its tree k on and from a byte offset on
abbrev pub over_shown : List ℕ → Tables → Item → (k from : ℕ) → Enclosing
over_shown source tables item k from a inside =
    node (tree_node_of source tables item) (past_byte from (trees_past k inside)) nil

-- a Text for the first byte of the opener, and an item after it
abbrev pub after_mark : List ℕ → Tables → (mark item : Item) → Enclosing
after_mark source tables mark item a inside =
    node (tree_node_of source tables mark) nil (node (tree_node_of source tables item) nil nil)

-- the last node inside, or the opener where nothing is inside
abbrev pub last_inside : (opener : ℕ) → List ℕ → ℕ
last_inside opener [] = opener
last_inside opener (n ∷ inside) = last_inside n inside

-- from an opener, which is a Text by now, there is a chain with these nodes inside and a `]` after them; what is found
-- ends at a byte offset
pub record CanClose (source : List ℕ) (tables : Tables) (nodes : List (Node Item)) (opener closer : ℕ) (inside : List ℕ)
    (byte : ℕ) : Type 0 where
  pub ready : CanResolve source tables nodes (Some opener)
  pub opener_closed : is_open (item_at nodes opener).body ≡ false
  pub childless : child_of nodes opener ≡ None
  pub after : List ℕ
  pub follows : roots (forest_at (links_of nodes) (sibling_of nodes opener)) ≡ inside ++ closer ∷ after
  pub closer_no_run : run_character (item_at nodes closer).body ≡ None
  pub closer_ends : (item_at nodes closer).end ≤ byte
  pub boundary : IsCharBoundary source byte
  -- an item that has bytes both before and after that offset may be cut there
  pub between : (next : ℕ) → first_past nodes byte after ≡ Some next → (item_at nodes next).start < byte
      → MayBeCut (item_at nodes next).body

-- an item can be put into the node of that opener: it starts where the opener does, and ends at or before the byte
-- offset
pub record CanPutOver (source : List ℕ) (tables tables' : Tables) (nodes : List (Node Item)) (opener : ℕ) (item : Item)
    (byte : ℕ) : Type 0 where
  pub puts : CanPut source tables tables' item
  pub starts : item.start ≡ (item_at nodes opener).start
  pub ends : item.end ≤ byte

-- what is inside can be shown from a byte offset after a pipe on, which begins in the node `first`: that node ends past
-- the offset, and is not cut there where it is open
pub record CanShow (source : List ℕ) (nodes : List (Node Item)) (inside : List ℕ) (skipped : List ℕ) (first from : ℕ)
    : Type 0 where
  pub shown : List ℕ
  pub inside_is : inside ≡ skipped ++ first ∷ shown
  pub boundary : (item_at nodes first).start < from → IsCharBoundary source from
  pub ends_past : from < (item_at nodes first).end
  pub piped : follows_pipe source from ≡ true
  pub not_cut : (item_at nodes first).start < from → is_open (item_at nodes first).body ≡ false

-- two items can be put there: a Text for the opener's first byte, and an item in the node of the closer, which ends
-- where that does
pub record CanPutMark (source : List ℕ) (tables tables' : Tables) (nodes : List (Node Item)) (opener closer : ℕ)
    (mark item : Item) : Type 0 where
  pub puts_mark : CanPut source tables tables' mark
  pub puts : CanPut source tables tables' item
  pub names_nothing : (n : Named) → times_named n mark.body ≡ 0
  pub starts : mark.start ≡ (item_at nodes opener).start
  pub in_order : mark.end ≤ item.start
  pub ends : item.end ≡ (item_at nodes closer).end
  pub closer_open : is_open (item_at nodes closer).body ≡ true

-- what a `]` becomes was put in place; `standing` are the nodes that hold it now
pub record PutsOver (source : List ℕ) (opener closer : ℕ) (inside : List ℕ) (trees : Enclosing) (goes_on : ℕ)
    (standing : List ℕ) (rest : Continuation) (old new : List (Node Item)) (tables tables' : Tables) : Type 0 where
  -- once what is left is rewritten by a rule, the whole chain is
  pub whole : (rule : Forest Plain → Forest Plain) (nodes : List (Node Item)) (later : Tables)
      → Rewrites source rule rest.next new nodes tables' later
      → Rewrites source (closed_over (length inside) trees goes_on rule) (Some opener) old nodes tables later
  pub leaves : LeavesRest source opener rest.next old new tables'
  pub past : IsRestPast old goes_on (sibling_of old closer) rest
  -- the links after the `]` lead on past that byte offset
  pub leads : (low : ℕ) (after : List Numbered) → LeadsThrough old low (sibling_of old closer) after
      → LeadsThrough new low rest.next (numbered_past_byte goes_on after)
  pub numbers : roots (forest_at (links_of new) (Some opener)) ≡ standing ++ roots (forest_at (links_of new) rest.next)

-- what is inside was moved below the opener's node, which the closer follows; no item has changed
pub record IsEnclosed (old new : List (Node Item)) (opener last closer : ℕ) : Type 0 where
  pub size : length new ≡ length old
  pub items : (n : ℕ) → item_at new n ≡ item_at old n
  pub next_is : sibling_of new opener ≡ Some closer
  pub none_inside : last ≡ opener → child_of new opener ≡ None
  pub inside_is : (last ≡ opener → ⊥) → child_of new opener ≡ sibling_of old opener
  pub last_next : (last ≡ opener → ⊥) → sibling_of new last ≡ None
  pub last_child : (last ≡ opener → ⊥) → child_of new last ≡ child_of old last
  pub others : (n : ℕ) → (n ≡ opener → ⊥) → (n ≡ last → ⊥) → IsSameAt old new n
