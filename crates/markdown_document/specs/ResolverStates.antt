-- What resolving a chain reads and changes, the chain from a link on, and the blocks above it.
use Rattle.std.specs.Prelude.{ℕ, List, Option, length}
use Rattle.markdown_base.specs.Arena.{Arena}
use Rattle.markdown_base.specs.ArenaForest.{links_of, forest_at}
use Rattle.markdown_base.specs.Forest.{Forest, roots}
use Rattle.markdown_base.specs.Questions.{Answers}
use Rattle.markdown_base.specs.declared.item.Item.{Item}
use Rattle.markdown_base.specs.declared.node.Node.{Node}
use Rattle.markdown_defs.specs.Allocations.{Allocated}
use Rattle.markdown_document.specs.Setting.{ReferenceState, uses_of}
use Rattle.markdown_document.specs.Places.{trees_from}
use Rattle.markdown_document.specs.Totals.{total, same, weight_at}
use Rattle.markdown_document.specs.NamedEntries.{naming, Named}
use Rattle.markdown_document.specs.Document.{Plain}
use Rattle.markdown_document.specs.Tables.{Tables, tables_of}
use Rattle.markdown_document.specs.EnclosingBlocks.{EnclosingBlocks, above_at}

-- what resolving a chain reads and changes
pub record ResolverState (C : Type 0) : Type 0 where
  pub nodes : List (Node Item)
  pub tables : Tables
  pub limit : ℕ
  pub uses : List ℕ → ℕ
  pub callback : Option C

-- the state of references in it, where these answers of the callback are still to come
abbrev pub state_at : {C : Type 0} → ResolverState C → Answers → ReferenceState
state_at resolver_state answers = record { limit = resolver_state.limit; answers = answers; uses = resolver_state.uses }

-- the chain from a link on
abbrev pub chain_at : {C : Type 0} → List ℕ → ResolverState C → Option ℕ → Forest Plain
chain_at source resolver_state l = trees_from source resolver_state.tables resolver_state.nodes l

-- how often a number occurs in the chain from a link on, and below it
abbrev pub times_in : List (Node Item) → Option ℕ → ℕ → ℕ
times_in nodes l n = total (same n) (forest_at (links_of nodes) l)

-- how often an entry is referred to in a chain and below it
abbrev pub named_in : List (Node Item) → Option ℕ → Named → ℕ
named_in nodes l n = total (naming nodes n) (forest_at (links_of nodes) l)

-- the weight of a chain, with what is below it
abbrev pub weight_in : List (Node Item) → Option ℕ → ℕ
weight_in nodes l = total (weight_at nodes) (forest_at (links_of nodes) l)

-- the state of the resolver over a tree, with what its items refer to
abbrev pub resolver_state : {C : Type 0} → Arena Item → Allocated → ℕ → Option C → ResolverState C
resolver_state tree held limit callback = record {
  nodes = tree.nodes;
  tables = tables_of held;
  limit = limit;
  uses = uses_of held.footdefs;
  callback = callback;
}

-- the number of items of the chain from a link on
abbrev pub items_from : List (Node Item) → Option ℕ → ℕ
items_from nodes l = length (roots (forest_at (links_of nodes) l))

-- the blocks above the chain at the cursor of a tree
abbrev pub above_cursor : List ℕ → Arena Item → EnclosingBlocks
above_cursor source tree = above_at source tree.nodes tree.spine
