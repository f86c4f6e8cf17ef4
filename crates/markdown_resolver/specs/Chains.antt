-- What a resolver of chains guarantees to a walk: a chain is resolved in place, from one node on.
use Rattle.std.specs.Prelude.{◌≡◌, ℕ, ◌<◌, ◌≤◌, List, [], ◌∷◌, ◌++◌, Option, Some, length, is_some, ⊤}
use Rattle.markdown_base.specs.Arena.{Arena}
use Rattle.markdown_base.specs.ArenaForest.{links_of}
use Rattle.markdown_base.specs.ArenaWalk.{Reaches}
use Rattle.std.specs.Option.{option_map}
use Rattle.markdown_base.specs.BlockTree.{Numbered, numbered, item_at}
use Rattle.markdown_base.specs.Item.{LiesIn}
use Rattle.markdown_document.specs.ItemRules.{ComesBefore}
use Rattle.markdown_base.specs.Forest.{Forest}
use Rattle.markdown_base.specs.Questions.{Question, Answer, Answers}
use Rattle.markdown_base.specs.declared.item.Item.{Item}
use Rattle.markdown_base.specs.declared.node.Node.{Node}
use Rattle.markdown_defs.specs.Allocations.{Allocated}
use Rattle.markdown_defs.specs.Callback.{Asks}
use Rattle.markdown_defs.specs.Footnotes.{footnote_at}
use Rattle.markdown_resolver.specs.Kept.{IsQuietBelow}
use Rattle.markdown_resolver.specs.PassOne.{Outcome}
use Rattle.markdown_resolver.specs.Resolved.{resolved}
use Rattle.markdown_document.specs.EnclosingBlocks.{EnclosingBlocks}
use Rattle.markdown_document.specs.Counts.{WorkRises}
use Rattle.markdown_document.specs.declared.work.Work.{Work}
use Rattle.markdown_resolver.specs.ChainCounts.{RisesInPart, chain_counts}
use Rattle.markdown_document.specs.Setting.{Setting, ReferenceState}
use Rattle.markdown_document.specs.Places.{trees_from}
use Rattle.markdown_document.specs.PlacedNodes.{IsPlaced, IsSameAt}
use Rattle.markdown_document.specs.Document.{no_notes, Plain}
use Rattle.markdown_document.specs.ResolverStates.{ResolverState, chain_at, state_at, named_in, resolver_state}
use Rattle.markdown_document.specs.ResolverStates.{times_in, weight_in}
use Rattle.markdown_document.specs.ResolverStates.{above_cursor}
use Rattle.markdown_document.specs.Tables.{Tables}
use Rattle.markdown_document.specs.NamedEntries.{Named, number_of, size_for, HasGrown}

-- the chain from the link l on was changed in place, and the tables with it
pub record ChangesChain (source : List ℕ) (l : Option ℕ) (old new : List (Node Item)) (tables tables' : Tables) : Type 0
  where
    -- from l the links lead through a forest of items that are placed, so that the runs in it are whole, at every depth
    pub reaches : Reaches (links_of new) (IsPlaced source tables' new) l
    -- no node occurs twice in it, and each node is of the old chain or new
    pub once : (n : ℕ) → times_in new l n ≤ 1
    pub of_chain : (n : ℕ) → n < length old → times_in new l n ≤ times_in old l n
    -- nodes that were not in the chain are unchanged
    pub more_nodes : length old ≤ length new
    pub outside : (n : ℕ) → n < length old → times_in old l n ≡ 0 → IsSameAt old new n
    -- the tables have grown at their ends; no entry is referred to twice, and each is new or was referred to in the
    -- chain
    pub grown : HasGrown tables tables'
    pub named_once : (n : Named) → named_in new l n ≤ 1
    pub named : (n : Named) → number_of n < size_for tables n → named_in new l n ≤ named_in old l n
    -- what precedes the chain in order still does
    pub before : (a : Numbered) → ComesBefore a (option_map (numbered old) l)
        → ComesBefore a (option_map (numbered new) l)
    -- the chain is no heavier
    pub no_heavier : weight_in new l ≤ weight_in old l

-- from one stage to another the chain from the link l on was resolved by a rule, in place
pub record ResolvesFrom {C : Type 0} (step : C → Question → Option Answer → C
    → Type 0) (source : List ℕ) (rule : Forest Plain → ReferenceState → Outcome (Unit {0})) (l : Option ℕ)
    (old new : ResolverState C)
    : Type 0 where
  pub changes : ChangesChain source l old.nodes new.nodes old.tables new.tables
  -- the callback returned these answers to these questions; and with them the rule gives the new forest, whatever
  -- answers follow, which are passed on
  pub answers : Answers
  pub questions : List Question
  pub asked : Asks step old.callback questions answers new.callback
  pub resolves : (later : Answers) → rule (chain_at source old l) (state_at old (answers ++ later))
      ≡ record { questions = questions; forest = chain_at source new l; state = state_at new later }

-- what a resolver may rely on
pub record CanResolve (source : List ℕ) (tables : Tables) (nodes : List (Node Item)) (l : Option ℕ) : Type 0 where
  pub reaches : Reaches (links_of nodes) (IsPlaced source tables nodes) l
  pub once : (n : ℕ) → times_in nodes l n ≤ 1
  pub named_once : (n : Named) → named_in nodes l n ≤ 1
  pub quiet_below : IsQuietBelow (trees_from source tables nodes l)

-- a node that was entered exists, lies in the text, and is not in the chain from a link on: it is unchanged when that
-- chain is resolved
pub record IsAbove (source : List ℕ) (nodes : List (Node Item)) (l : Option ℕ) (ix : ℕ) : Type 0 where
  pub within : ix < length nodes
  pub lies : LiesIn source (item_at nodes ix)
  pub apart : times_in nodes l ix ≡ 0

-- the same for each node of a spine
abbrev pub AreAbove : List ℕ → List (Node Item) → Option ℕ → List ℕ → Type 0
AreAbove source nodes l [] = ⊤
AreAbove source nodes l (ix ∷ deeper) = IsAbove source nodes l ix × AreAbove source nodes l deeper

-- the chain from the node `first` on was resolved, below the nodes of the spine; all else in the tree is unchanged
pub record ResolvesChain {C : Type 0} (step : C → Question → Option Answer → C → Type 0) (s : Setting) (first : ℕ)
    (old new : Arena Item) (held held' : Allocated) (limit limit' : ℕ) (callback callback' : Option C)
    (work work' : Work) : Type 0 where
  pub tree : new ≡ record old { nodes = new.nodes }
  -- in the tables only the texts, the links and the uses of footnotes change, and the names of footnotes stay
  pub tables : held' ≡ record held { cows = held'.cows; links = held'.links; footdefs = held'.footdefs }
  pub footnotes : (name : List ℕ) → is_some (footnote_at held'.footdefs name) ≡ is_some (footnote_at held.footdefs name)
  pub chain : ResolvesFrom step s.text (resolved s no_notes (above_cursor s.text old)) (Some first)
      (resolver_state old held limit callback) (resolver_state new held' limit' callback')
  -- the counts rose by those of the chain, for the answers that were given
  pub counted : (later : Answers) → WorkRises
      (chain_counts s no_notes (above_cursor s.text old) (chain_at s.text (resolver_state old held limit callback)
      (Some first))
      (state_at (resolver_state old held limit callback) (chain.answers ++ later)))
      work work'

-- memory was refused on the way: the callback returned these answers to these questions, with which those of the chain
-- begin; the counts rose by a part of those of the chain for these answers
pub record StopsIn {C : Type 0} (step : C → Question → Option Answer → C → Type 0) (s : Setting)
    (above : EnclosingBlocks)
    (first : ℕ) (old : ResolverState C) (callback' : Option C) (work work' : Work) : Type 0 where
  pub answers : Answers
  pub questions : List Question
  pub asked : Asks step old.callback questions answers callback'
  pub begins : (later : Answers) → (others : List Question)
      × ((resolved s no_notes above (chain_at s.text old (Some first)) (state_at old (answers ++ later))).questions
      ≡ questions ++ others)
  pub counts : (later : Answers) → RisesInPart
      (chain_counts s no_notes above (chain_at s.text old (Some first)) (state_at old (answers ++ later))) work work'
