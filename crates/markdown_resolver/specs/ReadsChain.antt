-- What a resolver requires of a chain, and what reading and resolving the chain keeps: the terms of contracts.
use Rattle.std.specs.Prelude.{◌≡◌, ℕ, List, Option, Some, is_some}
use Rattle.markdown_base.specs.Arena.{Arena}
use Rattle.markdown_base.specs.Questions.{Question, Answer}
use Rattle.markdown_base.specs.declared.item.Item.{Item}
use Rattle.markdown_defs.specs.Footnotes.{footnote_at}
use Rattle.markdown_document.specs.Counts.{RisesAtMost, risen}
use Rattle.markdown_document.specs.Document.{no_notes}
use Rattle.markdown_document.specs.Places.{trees_from}
use Rattle.markdown_document.specs.ResolverStates.{above_cursor}
use Rattle.markdown_document.specs.Tables.{Tables}
use Rattle.markdown_document.specs.declared.work.Work.{Work}
use Rattle.markdown_resolver.specs.Chains.{AreAbove, CanResolve, ResolvesFrom}
use Rattle.markdown_resolver.specs.Unread.{IsUnread}
use Rattle.markdown_resolver.specs.PassOne.{pass_one}
use Rattle.markdown_resolver.specs.ReadsBracket.{setting_by, resolver_state_by}
use Rattle.markdown_resolver.specs.declared.resolver.Resolver.{Resolver}

-- the chain of a tree from a node on can be resolved: nothing of it was read, and the nodes of the spine are above it
pub record CanResolveBelow (text : List ℕ) (tables : Tables) (tree : Arena Item) (first : ℕ) : Type 0 where
  pub ready : CanResolve text tables tree.nodes (Some first)
  pub unread : IsUnread (trees_from text tables tree.nodes (Some first))
  pub above : AreAbove text tree.nodes (Some first) tree.spine

-- a resolver has kept the text, the syntax and the reference definitions
pub record KeepsInput {C : Type 0} (old new : Resolver C) : Type 0 where
  pub text : new.text ≡ old.text
  pub syntax : new.syntax ≡ old.syntax
  pub definitions : new.lookup.tables.refdefs ≡ old.lookup.tables.refdefs

-- what reading a chain with this number of items makes of the counts
pub record ReadCounts (items : ℕ) (old new : Work) : Type 0 where
  pub items_counted : new.items ≡ risen items old.items
  pub same_delimiters : new.delimiters ≡ old.delimiters
  pub same_examined : new.examined ≡ old.examined
  pub code : RisesAtMost items old.code_visits new.code_visits
  pub math : RisesAtMost items old.math_visits new.math_visits

-- a resolver has read a chain in pass one, in place
pub record ReadsChain {C : Type 0} (step : C → Question → Option Answer → C → Type 0) (first : ℕ)
    (tree tree' : Arena Item) (old new : Resolver C) : Type 0 where
  pub reads : ResolvesFrom step old.text.now (pass_one (setting_by old) no_notes (above_cursor old.text.now tree))
      (Some first) (resolver_state_by tree old) (resolver_state_by tree' new)
  pub place_is : tree' ≡ record tree { nodes = tree'.nodes }

-- reading a chain has changed only the texts and links that were appended, the uses of footnotes, what asking changes,
-- the counts, and what is held of the chain; the names of footnotes are the same
pub record ChangesForChain {C : Type 0} (old new : Resolver C) : Type 0 where
  pub kept : new ≡ record old {
    lookup = record old.lookup {
      tables = record old.lookup.tables {
        cows = new.lookup.tables.cows;
        links = new.lookup.tables.links;
        footdefs = new.lookup.tables.footdefs;
      };
      limit = new.lookup.limit;
      callback = new.lookup.callback;
    };
    waiting = new.waiting;
    work = new.work;
    code_closers = new.code_closers;
    math_closers = new.math_closers;
  }
  pub footnotes : (name : List ℕ)
      → is_some (footnote_at new.lookup.tables.footdefs name) ≡ is_some (footnote_at old.lookup.tables.footdefs name)
