-- A chain of an arena that is rewritten in place: the terms of private contracts on its nodes.
use Rattle.std.specs.Prelude.{◌≡◌, ℕ, suc, ◌+◌, ◌<◌, ◌≤◌, max, Bool, true, false, List, [], ◌∷◌, ◌++◌, Option, Some}
use Rattle.std.specs.Prelude.{None, length}
use Rattle.std.specs.Prelude.{if◌then◌else◌, nat_le}
use Rattle.std.specs.Option.{option_map}
use Rattle.markdown_base.specs.Arena.{Arena, sibling_of}
use Rattle.markdown_base.specs.ArenaForest.{links_of, forest_at}
use Rattle.markdown_base.specs.BlockTree.{Numbered, numbered, item_at}
use Rattle.markdown_base.specs.Forest.{Forest, nil, node, roots}
use Rattle.markdown_base.specs.Item.{LiesIn, is_block, is_open}
use Rattle.markdown_base.specs.WellFormed.{RunsAreWhole, run_character}
use Rattle.markdown_base.specs.declared.fault.Fault.{Fault}
use Rattle.markdown_base.specs.declared.item.Item.{Item}
use Rattle.markdown_base.specs.declared.item.ItemBody.{ItemBody}
use Rattle.markdown_base.specs.declared.node.Node.{Node}
use Rattle.markdown_document.specs.ChainRest.{joined_chains, past}
use Rattle.markdown_document.specs.Document.{Plain, as_text, tree_node_of}
use Rattle.markdown_document.specs.Places.{trees_from}
use Rattle.markdown_document.specs.PlacedNodes.{HasSlices, IsSameAt}
use Rattle.markdown_document.specs.ResolverStates.{items_from, times_in, weight_in}
use Rattle.markdown_document.specs.Tables.{Tables}
use Rattle.markdown_document.specs.NamedEntries.{Named, NamesEntries, number_of, size_for, times_named}
use Rattle.markdown_document.specs.Waiting.{is_quiet}
use Rattle.markdown_spans.specs.ChainInArena.{LeadsThrough}
use Rattle.markdown_resolver.specs.Chains.{CanResolve, ChangesChain}
use Rattle.markdown_resolver.specs.declared.continuation.Continuation.{Continuation}

-- a delimiter run before a link that continues there still does
abbrev pub RunsGoOn : List ℕ → List (Node Item) → List (Node Item) → Option ℕ → Type 0
RunsGoOn source nodes nodes' l =
    (a : Numbered) → RunsAreWhole source a (option_map (numbered nodes) l)
    → RunsAreWhole source a (option_map (numbered nodes') l)

-- the chain from the link l on was rewritten by a rule that asks nothing, so that it can be the rest of a chain
pub record Rewrites (source : List ℕ) (rule : Forest Plain → Forest Plain) (l : Option ℕ) (old new : List (Node Item))
    (tables tables' : Tables) : Type 0 where
  pub changes : ChangesChain source l old new tables tables'
  pub runs : RunsGoOn source old new l
  pub rewritten : trees_from source tables' new l ≡ rule (trees_from source tables old l)

-- the trees that replace a tree
abbrev pub Standing : Type 0
Standing = Plain → Forest Plain → Forest Plain

-- the first tree of a chain, and what follows it up to the end of what was found, if anything was, are replaced by
-- trees; a rule is applied to what is left
abbrev pub replaced : Standing → (goes_on : Option ℕ) → (Forest Plain → Forest Plain) → Forest Plain → Forest Plain
replaced trees goes_on rule nil = nil
replaced trees goes_on rule (node a below after) = joined_chains (trees a below) (rule (past goes_on after))

-- the tree itself where it is quiet, and otherwise a Text
abbrev pub text_unless : (is_quiet : Bool) → List ℕ → Standing
text_unless true source a below = node a below nil
text_unless false source a below = node (as_text source a) nil nil

-- a tree at which nothing is found: a Text, unless it is not open or waits for pairing
abbrev pub literal : List ℕ → Standing
literal source a below = text_unless (is_quiet a.part.shape) source a below

-- one item
abbrev pub one_item : List ℕ → Tables → Item → Standing
one_item source tables item a below = node (tree_node_of source tables item) nil nil

-- two items, one after the other
abbrev pub pair : List ℕ → Tables → (first second : Item) → Standing
pair source tables first second a below =
    node (tree_node_of source tables first) nil (node (tree_node_of source tables second) nil nil)

-- one item with one child
abbrev pub parent : List ℕ → Tables → (item inside : Item) → Standing
parent source tables item inside a below =
    node (tree_node_of source tables item) (node (tree_node_of source tables inside) nil nil) nil

-- an item without its bytes before byte offset i
abbrev pub begun_item : ℕ → Item → Item
begun_item i item = record { start = max item.start i; end = item.end; body = item.body }

-- what is left of a chain past byte offset i
abbrev pub numbered_past_byte : ℕ → List Numbered → List Numbered
numbered_past_byte i [] = []
numbered_past_byte i (a ∷ after) =
    if nat_le a.item.end i then numbered_past_byte i after
    else record { number = a.number; item = begun_item i a.item } ∷ after

-- what is left of a chain past a byte offset; all of it where nothing was found
abbrev pub numbered_past : Option ℕ → List Numbered → List Numbered
numbered_past None after = after
numbered_past (Some i) after = numbered_past_byte i after

-- the first of some nodes that ends past byte offset i
abbrev pub first_past : List (Node Item) → ℕ → List ℕ → Option ℕ
first_past nodes i [] = None
first_past nodes i (ix ∷ after) = if nat_le (item_at nodes ix).end i then first_past nodes i after else Some ix

-- what is left of a chain past a byte offset, from the first node that ends past it on
pub record IsRestPast (nodes : List (Node Item)) (i : ℕ) (l : Option ℕ) (rest : Continuation) : Type 0 where
  pub next_is : rest.next ≡ first_past nodes i (roots (forest_at (links_of nodes) l))
  pub counted : items_from nodes l ≡ rest.passed + items_from nodes rest.next

-- of the chain from the item of a node on, that item and those that were passed after it are not left
abbrev pub Passes : (ix : ℕ) → Continuation → (old new : List (Node Item)) → Type 0
Passes ix rest old new = items_from old (Some ix) ≡ suc (rest.passed + items_from new rest.next)

-- memory was refused, and the arena is as it was
abbrev pub IsRefused : (old new : Arena Item) → Fault → Type 0
IsRefused old new fault = (fault ≡ Fault.Memory) × (new ≡ old)

-- an item with this body may lose its first bytes: it is not open, and nothing that it refers to has to come from the
-- source
pub record MayBeCut (b : ItemBody) : Type 0 where
  pub closed : is_open b ≡ false
  pub no_slices : (source : List ℕ) (tables : Tables) (start end : ℕ) → HasSlices source tables start end b

-- something that ends at a byte offset was found at the node of an opener, and what is left of the chain can begin
-- there
pub record IsFoundAt (source : List ℕ) (tables : Tables) (nodes : List (Node Item)) (ix end : ℕ) : Type 0 where
  pub ready : CanResolve source tables nodes (Some ix)
  pub was_open : is_open (item_at nodes ix).body ≡ true
  pub no_run : run_character (item_at nodes ix).body ≡ None
  -- an item that has bytes both before and after that offset may be cut there
  pub between : (next : ℕ) → first_past nodes end (roots (forest_at (links_of nodes) (sibling_of nodes ix))) ≡ Some next
      → (item_at nodes next).start < end → MayBeCut (item_at nodes next).body

-- an item can be put into a node: it is not open and not a block, lies in the text, and refers only to new entries,
-- which come from its range in the source where they have to
pub record CanPut (source : List ℕ) (tables tables' : Tables) (item : Item) : Type 0 where
  pub closed : is_open item.body ≡ false
  pub no_block : is_block item.body ≡ false
  pub lies : LiesIn source item
  pub named : NamesEntries tables' item.body
  pub slices : HasSlices source tables' item.start item.end item.body
  pub new_names : (n : Named) → number_of n < size_for tables n → times_named n item.body ≡ 0

-- the first item of a chain was read in place, and the chain continues at a link
pub record LeavesRest (source : List ℕ) (ix : ℕ) (next : Option ℕ) (old new : List (Node Item)) (tables' : Tables)
    : Type 0 where
  -- what is left can be read, and is lighter
  pub ready : CanResolve source tables' new next
  pub lighter : weight_in new next < weight_in old (Some ix)
  -- each node of what is left was in the chain or is new, and nodes outside the chain are unchanged
  pub of_chain : (n : ℕ) → n < length old → times_in new next n ≤ times_in old (Some ix) n
  pub more_nodes : length old ≤ length new
  pub outside : (n : ℕ) → n < length old → times_in old (Some ix) n ≡ 0 → IsSameAt old new n

-- two items can be put into the nodes of an opener and of its closer: the first starts where the opener does, the
-- second ends where the closer does
pub record CanPutPair (source : List ℕ) (tables tables' : Tables) (nodes : List (Node Item)) (ix closer : ℕ)
    (first second : Item) : Type 0 where
  pub puts_first : CanPut source tables tables' first
  pub puts_second : CanPut source tables tables' second
  pub names_nothing : (n : Named) → times_named n first.body ≡ 0
  pub starts : first.start ≡ (item_at nodes ix).start
  pub in_order : first.end ≤ second.start
  pub ends : second.end ≡ (item_at nodes closer).end
  pub before : List ℕ
  pub after : List ℕ
  pub follows : roots (forest_at (links_of nodes) (sibling_of nodes ix)) ≡ before ++ closer ∷ after
  pub closer_open : is_open (item_at nodes closer).body ≡ true
  pub closer_no_run : run_character (item_at nodes closer).body ≡ None

-- an item with one child can be put into the node of an opener
pub record CanPutParent (source : List ℕ) (tables tables' : Tables) (nodes : List (Node Item)) (ix : ℕ)
    (item inside : Item) : Type 0 where
  pub puts : CanPut source tables tables' item
  pub puts_inside : CanPut source tables tables' inside
  pub names_nothing : (n : Named) → times_named n inside.body ≡ 0
  pub starts : item.start ≡ (item_at nodes ix).start

-- trees were put in place of what was found, from the item on up to a byte offset
pub record Puts (source : List ℕ) (ix : ℕ) (trees : Standing) (goes_on : Option ℕ) (rest : Continuation)
    (old new : List (Node Item)) (tables tables' : Tables) : Type 0 where
  -- once what is left is rewritten by a rule, the whole chain is
  pub whole : (rule : Forest Plain → Forest Plain) (nodes : List (Node Item)) (later : Tables)
      → Rewrites source rule rest.next new nodes tables' later
      → Rewrites source (replaced trees goes_on rule) (Some ix) old nodes tables later
  pub leaves : LeavesRest source ix rest.next old new tables'
  pub passes : Passes ix rest old new
  -- the links lead on past that byte offset
  pub leads : (low : ℕ) (after : List Numbered) → LeadsThrough old low (sibling_of old ix) after
      → LeadsThrough new low rest.next (numbered_past goes_on after)
  -- the nodes that hold the trees now, one for each
  pub standing : List ℕ
  pub numbers : roots (forest_at (links_of new) (Some ix)) ≡ standing ++ roots (forest_at (links_of new) rest.next)
  pub as_many : (a : Plain) (below : Forest Plain) → length (roots (trees a below)) ≡ length standing
