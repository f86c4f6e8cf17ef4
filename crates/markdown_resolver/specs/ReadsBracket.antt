-- How a resolver reads an item of a chain in place, a bracket or another: the terms of private contracts.
use Rattle.std.specs.Prelude.{◌≡◌, ℕ, List, Option, Some, is_some}
use Rattle.markdown_base.specs.Arena.{Arena, sibling_of}
use Rattle.markdown_base.specs.BlockTree.{item_at}
use Rattle.markdown_base.specs.Questions.{Question, Answer}
use Rattle.markdown_base.specs.declared.item.Item.{Item}
use Rattle.markdown_brackets.specs.Decides.{Decides}
use Rattle.markdown_brackets.specs.LeftList.{Entry}
use Rattle.markdown_brackets.specs.Reference.{could_be_reference}
use Rattle.markdown_brackets.specs.declared.closing_bracket.ClosedBracket.{ClosedBracket}
use Rattle.markdown_document.specs.Setting.{Setting, rules_from, setting_of, uses_of}
use Rattle.markdown_document.specs.ResolverStates.{ResolverState, chain_at, items_from, resolver_state, above_cursor}
use Rattle.markdown_document.specs.Tables.{tables_of}
use Rattle.markdown_spans.specs.SpanClosers.{HoldsFrom, Learned, has_failed}
use Rattle.markdown_spans.specs.declared.span_text.SpanKind.{SpanKind}
use Rattle.markdown_resolver.specs.ChainPlace.{CanReadOn, CanReadItem}
use Rattle.markdown_resolver.specs.Unread.{IsUnread}
use Rattle.markdown_resolver.specs.Closes.{closing_at}
use Rattle.markdown_resolver.specs.PassOne.{bracket_context}
use Rattle.markdown_resolver.specs.ReadOn.{ReadsOn, StopsOn}
use Rattle.markdown_resolver.specs.ReadsItem.{LooksAt, LooksAtMost, ReadsItem}
use Rattle.markdown_resolver.specs.Rewritten.{IsRefused, Passes}
use Rattle.markdown_document.specs.declared.chain_place.ChainPlace.{ChainPlace}
use Rattle.markdown_resolver.specs.declared.resolver.Resolver.{Resolver}
use Rattle.markdown_resolver.specs.declared.continuation.Continuation.{Continuation}
use Rattle.markdown_defs.specs.Footnotes.{footnote_at}
use Rattle.markdown_base.specs.declared.node.Node.{Node}
use Rattle.markdown_base.specs.declared.fault.Fault.{Fault}

-- the setting of a resolver
abbrev pub setting_by : {C : Type 0} → Resolver C → Setting
setting_by r = setting_of r.text.now (rules_from r.syntax r.lookup.tables (is_some r.lookup.callback))

-- the stage of a resolver, with the chain in a tree
abbrev pub resolver_state_by : {C : Type 0} → Arena Item → Resolver C → ResolverState C
resolver_state_by tree r = resolver_state tree r.lookup.tables r.lookup.limit r.lookup.callback

-- a resolver has read a chain up to the item of a node: from the node `first` on is a left list, whose openers it holds
abbrev pub WasReadTo : {C : Type 0} → ChainPlace → Arena Item → Resolver C → (first ix : ℕ) → List (Entry ℕ) → Type 0
WasReadTo place tree r first ix left =
    CanReadOn place tree r.lookup.tables r.waiting.openers.brackets r.waiting.openers.wikilinks first ix left

-- what searches have learned is true of the chain from a link on
pub record HasLearned {C : Type 0} (r : Resolver C) (nodes : List (Node Item)) (l : Option ℕ) : Type 0 where
  pub code : HoldsFrom SpanKind.Code r.code_closers nodes l
  pub math : HoldsFrom SpanKind.Math r.math_closers nodes l

-- a resolver can read the item of a node
pub record CanReadNode {C : Type 0} (place : ChainPlace) (tree : Arena Item) (r : Resolver C) (ix : ℕ) : Type 0 where
  pub first : ℕ
  pub left : List (Entry ℕ)
  pub was_read : WasReadTo place tree r first ix left
  pub text : place.text.now ≡ r.text.now
  pub syntax : place.syntax ≡ r.syntax
  pub learned : HasLearned r tree.nodes (Some ix)

-- a resolver can read the item of a node, which is not a bracket
pub record CanReadOther {C : Type 0} (place : ChainPlace) (tree : Arena Item) (r : Resolver C) (ix : ℕ) : Type 0 where
  pub chain : CanReadItem place tree r.lookup.tables ix
  pub text : place.text.now ≡ r.text.now
  pub syntax : place.syntax ≡ r.syntax
  pub learned : HasLearned r tree.nodes (Some ix)

-- it was decided what the `]` of a node becomes: after any left list there, it is what pass one decides
pub record DecidesClosing {C : Type 0} (step : C → Question → Option Answer → C → Type 0) (place : ChainPlace)
    (tree : Arena Item) (ix : ℕ) (old new : Resolver C) (found : ClosedBracket) : Type 0 where
  pub decides : (first : ℕ) (left : List (Entry ℕ)) → WasReadTo place tree old first ix left
      → Decides step (bracket_context (setting_by old) (above_cursor old.text.now tree))
      (closing_at old.text.now (tables_of old.lookup.tables) tree.nodes old.waiting.spent
      (could_be_reference (item_at tree.nodes ix).body) ix)
      left old.lookup.limit new.lookup.limit (uses_of old.lookup.tables.footdefs) (uses_of new.lookup.tables.footdefs)
      old.waiting.spent new.waiting.spent old.lookup.callback new.lookup.callback new.waiting.openers.brackets
      new.waiting.openers.wikilinks found

-- after any left list there, the chain was read on from the item of a node to what is left
pub record GoesOnTo {C : Type 0} (step : C → Question → Option Answer → C → Type 0) (place : ChainPlace) (ix : ℕ)
    (rest : Continuation) (tree tree' : Arena Item) (old new : Resolver C) : Type 0 where
  pub reads : (first : ℕ) (left : List (Entry ℕ)) → WasReadTo place tree old first ix left
      → ReadsOn step (setting_by old) (above_cursor old.text.now tree) first (Some ix) rest.next left
      (resolver_state_by tree old)
      (resolver_state_by tree' new) old.waiting.spent new.waiting.spent new.waiting.openers.brackets
      new.waiting.openers.wikilinks
  pub passes : Passes ix rest tree.nodes tree'.nodes
  pub unread : IsUnread (chain_at old.text.now (resolver_state_by tree old) (Some ix))
      → IsUnread (chain_at old.text.now (resolver_state_by tree' new) rest.next)
  pub place_is : tree' ≡ record tree { nodes = tree'.nodes }

-- a resolver has read the bracket of a node: what searches have learned of what follows the bracket is true of what is
-- left
pub record ReadsBracket {C : Type 0} (step : C → Question → Option Answer → C → Type 0) (place : ChainPlace) (ix : ℕ)
    (rest : Continuation) (tree tree' : Arena Item) (old new : Resolver C) : Type 0 where
  pub goes_on : GoesOnTo step place ix rest tree tree' old new
  pub holds : (kind : SpanKind) (learned : Learned) → HoldsFrom kind learned tree.nodes (sibling_of tree.nodes ix)
      → HoldsFrom kind learned tree'.nodes rest.next

-- searches have examined items of the chain from the item of a node on, of which the chain from a link on is left
pub record Looked {C : Type 0} (ix : ℕ) (next : Option ℕ) (tree tree' : Arena Item) (old new : Resolver C) : Type 0
  where
    pub code : LooksAt (has_failed old.code_closers) (has_failed new.code_closers) old.work.code_visits
        new.work.code_visits (items_from tree.nodes (Some ix)) (items_from tree'.nodes next)
    pub math : LooksAt (has_failed old.math_closers) (has_failed new.math_closers) old.work.math_visits
        new.work.math_visits (items_from tree.nodes (Some ix)) (items_from tree'.nodes next)

-- a resolver has read the item of a node: what it has learned from searches is true of what is left, and they have
-- examined no item of that, unless one failed
pub record ReadsNode {C : Type 0} (step : C → Question → Option Answer → C → Type 0) (place : ChainPlace) (ix : ℕ)
    (rest : Continuation) (tree tree' : Arena Item) (old new : Resolver C) : Type 0 where
  pub goes_on : GoesOnTo step place ix rest tree tree' old new
  pub learned : HasLearned new tree'.nodes rest.next
  pub looked : Looked ix rest.next tree tree' old new

-- the same for an item that is not a bracket, by the rules of pass one
pub record ReadsOther {C : Type 0} (ix : ℕ) (rest : Continuation) (tree tree' : Arena Item)
    (old new : Resolver C) : Type 0
  where
    pub item : ReadsItem (setting_by old) (above_cursor old.text.now tree) ix rest tree.nodes tree'.nodes
        (tables_of old.lookup.tables) (tables_of new.lookup.tables)
    pub learned : HasLearned new tree'.nodes rest.next
    pub looked : Looked ix rest.next tree tree' old new
    pub place_is : tree' ≡ record tree { nodes = tree'.nodes }

-- memory was refused to the resolver while it read the item of a node
abbrev pub StopsAtNode : {C : Type 0} → (C → Question → Option Answer → C → Type 0) → ChainPlace → (ix : ℕ)
    → Arena Item → (old : Resolver C) → (callback' : Option C) → Type 0
StopsAtNode step place ix tree old callback' = (first : ℕ) (left : List (Entry ℕ))
    → WasReadTo place tree old first ix left
    → StopsOn step (setting_by old) (above_cursor old.text.now tree) (Some ix) left (resolver_state_by tree old)
    old.waiting.spent
    callback'

-- and searches have looked at no more items than there are from that node on
pub record StopsLooking {C : Type 0} (ix : ℕ) (tree : Arena Item) (old new : Resolver C) : Type 0 where
  pub code_looks : LooksAtMost (has_failed old.code_closers) (has_failed new.code_closers) old.work.code_visits
      new.work.code_visits (items_from tree.nodes (Some ix))
  pub math_looks : LooksAtMost (has_failed old.math_closers) (has_failed new.math_closers) old.work.math_visits
      new.work.math_visits (items_from tree.nodes (Some ix))

-- the only error is a refusal of memory, with the tree as it was; then the callback was asked, and searches have
-- looked, as they are at the item of a node
pub record StopsReading {C : Type 0} (step : C → Question → Option Answer → C → Type 0) (place : ChainPlace) (ix : ℕ)
    (tree tree' : Arena Item) (old new : Resolver C) (fault : Fault) : Type 0 where
  pub refused : IsRefused tree tree' fault
  pub at_node : StopsAtNode step place ix tree old new.lookup.callback
  pub looking : StopsLooking ix tree old new

-- reading an item that is not a bracket has changed only the texts and links that were appended, and what searches hold
-- and count
abbrev pub ChangesForOther : {C : Type 0} → Resolver C → Resolver C → Type 0
ChangesForOther old new = new ≡ record old {
  lookup = record old.lookup {
    tables = record old.lookup.tables { cows = new.lookup.tables.cows; links = new.lookup.tables.links };
  };
  work = record old.work { code_visits = new.work.code_visits; math_visits = new.work.math_visits };
  code_closers = new.code_closers;
  math_closers = new.math_closers;
}

-- on success and on error, a decision has changed only the uses of footnotes, what asking changes, and what is held of
-- brackets; the names of footnotes are the same
pub record ChangesForDecision {C : Type 0} (old new : Resolver C) : Type 0 where
  pub kept : new ≡ record old {
    lookup = record old.lookup {
      tables = record old.lookup.tables { footdefs = new.lookup.tables.footdefs };
      limit = new.lookup.limit;
      callback = new.lookup.callback;
    };
    waiting = new.waiting;
  }
  pub footnotes : (name : List ℕ)
      → is_some (footnote_at new.lookup.tables.footdefs name) ≡ is_some (footnote_at old.lookup.tables.footdefs name)

-- on success and on error, reading a bracket has changed only the texts and links that were appended, the uses of
-- footnotes, what asking changes, and what is held of brackets; the names of footnotes are the same
pub record ChangesForBracket {C : Type 0} (old new : Resolver C) : Type 0 where
  pub kept : new ≡ record old {
    lookup = record old.lookup {
      tables = record old.lookup.tables {
        cows = new.lookup.tables.cows;
        links = new.lookup.tables.links;
        footdefs = new.lookup.tables.footdefs;
      };
      limit = new.lookup.limit;
      callback = new.lookup.callback;
    };
    waiting = new.waiting;
  }
  pub footnotes : (name : List ℕ)
      → is_some (footnote_at new.lookup.tables.footdefs name) ≡ is_some (footnote_at old.lookup.tables.footdefs name)

-- reading an item has changed only these, and what searches hold and count
pub record ChangesForNode {C : Type 0} (old new : Resolver C) : Type 0 where
  pub kept : new ≡ record old {
    lookup = record old.lookup {
      tables = record old.lookup.tables {
        cows = new.lookup.tables.cows;
        links = new.lookup.tables.links;
        footdefs = new.lookup.tables.footdefs;
      };
      limit = new.lookup.limit;
      callback = new.lookup.callback;
    };
    waiting = new.waiting;
    work = record old.work {
      code_visits = new.work.code_visits;
      math_visits = new.work.math_visits;
    };
    code_closers = new.code_closers;
    math_closers = new.math_closers;
  }
  pub footnotes : (name : List ℕ)
      → is_some (footnote_at new.lookup.tables.footdefs name) ≡ is_some (footnote_at old.lookup.tables.footdefs name)
