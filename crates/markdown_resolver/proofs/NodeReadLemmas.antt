-- An item of a chain was read in place: what is true of a bracket, and of another item, is true of any.
use Rattle.std.proofs.Common.{◌≡◌, ℕ, List, Option, Some, None, sym, ap, subst, refl}
use Rattle.std.specs.Prelude.{Result, Ok, Err, IfOk, is_some}
use Rattle.markdown_base.specs.Arena.{Arena, sibling_of}
use Rattle.markdown_base.specs.BlockTree.{item_at}
use Rattle.markdown_base.specs.Questions.{Question, Answer}
use Rattle.markdown_base.specs.declared.item.Item.{Item}
use Rattle.markdown_brackets.specs.LeftList.{Entry}
use Rattle.markdown_document.specs.EnclosingBlocks.{EnclosingBlocks}
use Rattle.markdown_document.specs.Setting.{Setting, Rules, rules_from, setting_of}
use Rattle.markdown_document.specs.ResolverStates.{items_from, above_cursor}
use Rattle.markdown_document.specs.Tables.{tables_of, Tables}
use Rattle.markdown_spans.specs.SpanClosers.{HoldsFrom, Learned, has_failed}
use Rattle.markdown_spans.specs.declared.span_text.SpanKind.{SpanKind}
use Rattle.markdown_resolver.specs.BracketKinds.{kind_of}
use Rattle.markdown_resolver.specs.ReadOn.{ReadsOn, StandsTo}
use Rattle.markdown_resolver.specs.ReadsBracket.{CanReadNode, ChangesForBracket, ChangesForNode, ReadsBracket}
use Rattle.markdown_resolver.specs.ReadsBracket.{ReadsNode, StopsLooking, WasReadTo, setting_by, resolver_state_by}
use Rattle.markdown_resolver.specs.ReadsBracket.{ChangesForOther, HasLearned, Looked, ReadsOther, CanReadOther}
use Rattle.markdown_resolver.specs.ReadsItem.{ReadsItem, read_at}
use Rattle.markdown_resolver.specs.declared.continuation.Continuation.{Continuation}
use Rattle.markdown_document.specs.declared.chain_place.ChainPlace.{ChainPlace}
use Rattle.markdown_resolver.specs.declared.resolver.Resolver.{Resolver}
use Rattle.markdown_resolver.proofs.ChainLeadsLemmas.{chain_leads, holds_next}
use Rattle.markdown_resolver.proofs.ItemOnLemmas.{reads_on_item}
use Rattle.markdown_resolver.proofs.OpenerReadLemmas.{other_kind, ready_here}
use Rattle.markdown_resolver.proofs.ReadingLemmas.{looks_at_none, stops_at_none, reads_by_rules}
use Rattle.markdown_defs.specs.Footnotes.{footnote_at}
use Rattle.markdown_resolver.proofs.UnreadLemmas.{unread_after, unread_past}
use Rattle.markdown_resolver.specs.Unread.{IsUnread}
use Rattle.markdown_resolver.specs.Chains.{CanResolve}
use Rattle.markdown_document.specs.Places.{trees_from}
use Rattle.markdown_base.specs.declared.node.Node.{Node}
use Rattle.markdown_base.specs.declared.fault.Fault.{Fault}

module _ {C : Type 0} {step : C → Question → Option Answer → C
    → Type 0} {place : ChainPlace} {ix : ℕ} {rest : Continuation}
    {tree tree' : Arena Item} {old new : Resolver C} (can : CanReadNode place tree old ix) where
  -- a bracket leaves searches as they are
  pub bracket_read : ChangesForBracket old new → ReadsBracket step place ix rest tree tree' old new
      → ReadsNode step place ix rest tree tree' old new
  bracket_read changes r =
      let leads = chain_leads (ready_here can.was_read) in
      let holds : (kind : SpanKind) (learned : Learned) → HoldsFrom kind learned tree.nodes (Some ix)
      → HoldsFrom kind learned tree'.nodes rest.next =
      λ kind learned h. r.holds kind learned (holds_next kind learned tree.nodes ix leads h) in
      let before = items_from tree.nodes (Some ix) in
      let after = items_from tree'.nodes rest.next in
      record {
        goes_on = r.goes_on;
        learned = subst (λ (x : Resolver C). HasLearned x tree'.nodes rest.next) (sym changes.kept) (record {
          code = holds SpanKind.Code old.code_closers can.learned.code;
          math = holds SpanKind.Math old.math_closers can.learned.math;
        });
        looked = subst (λ (x : Resolver C). Looked ix rest.next tree tree' old x) (sym changes.kept) (record {
          code = looks_at_none (has_failed old.code_closers) old.work.code_visits before rest.passed after
              r.goes_on.passes;
          math = looks_at_none (has_failed old.math_closers) old.work.math_visits before rest.passed after
              r.goes_on.passes;
        });
      }

-- so it does if an allocation fails
pub bracket_stops : {C : Type 0} (ix : ℕ) (tree : Arena Item) (old new : Resolver C) → ChangesForBracket old new
    → StopsLooking ix tree old new
bracket_stops {C} ix tree old new changes =
    subst (λ (x : Resolver C). StopsLooking ix tree old x) (sym changes.kept) (record {
      code_looks = stops_at_none (has_failed old.code_closers) old.work.code_visits _;
      math_looks = stops_at_none (has_failed old.math_closers) old.work.math_visits _;
    })

-- another item was read, after any left list
pub other_on : {C : Type 0} (step : C → Question → Option Answer → C → Type 0) (place : ChainPlace) (ix : ℕ)
    (rest : Continuation) (tree tree' : Arena Item) (old new : Resolver C) → CanReadNode place tree old ix
    → kind_of (item_at tree.nodes ix).body ≡ None → ChangesForOther old new
    → ReadsItem (setting_by old) (above_cursor old.text.now tree) ix rest tree.nodes tree'.nodes
    (tables_of old.lookup.tables) (tables_of new.lookup.tables)
    → (first : ℕ) (left : List (Entry ℕ)) → WasReadTo place tree old first ix left
    → ReadsOn step (setting_by old) (above_cursor old.text.now tree) first (Some ix) rest.next left
    (resolver_state_by tree old)
    (resolver_state_by tree' new) old.waiting.spent new.waiting.spent new.waiting.openers.brackets
    new.waiting.openers.wikilinks
other_on {C} step place ix rest tree tree' old new can kind kept r first left was_read =
    let so_far : StandsTo old.text.now (tables_of old.lookup.tables) tree.nodes first (Some ix) left = rw (← can.text)
    was_read.so_far in
    let same : resolver_state_by tree' new
    ≡ record (resolver_state_by tree old) { nodes = tree'.nodes; tables = tables_of new.lookup.tables } = rw kept refl
    in
    subst (λ (x : Resolver C). ReadsOn step (setting_by old) (above_cursor old.text.now tree) first (Some ix) rest.next
    left (resolver_state_by tree old)
    (resolver_state_by tree' new) old.waiting.spent x.waiting.spent x.waiting.openers.brackets
    x.waiting.openers.wikilinks) (sym kept)
    (reads_on_item step (setting_by old) (above_cursor old.text.now tree) first ix rest left
    (resolver_state_by tree old)
    (resolver_state_by tree' new)
    old.waiting.spent old.waiting.openers.brackets old.waiting.openers.wikilinks same so_far was_read.openers
    (other_kind (item_at tree.nodes ix).body kind) r)

-- what a bracket changes, an item may
pub bracket_changes : {C : Type 0} {old new : Resolver C} → ChangesForBracket old new → ChangesForNode old new
bracket_changes changes = record { kept = rw changes.kept refl; footnotes = changes.footnotes }

-- another item changes no more either
pub other_changes : {C : Type 0} {old new : Resolver C} → ChangesForOther old new → ChangesForNode old new
other_changes {C} {old} {new} kept = record {
  kept = rw kept refl;
  footnotes = λ name. ap (λ (r : Resolver C). is_some (footnote_at r.lookup.tables.footdefs name)) kept;
}

-- what is left after it was not read
unread_read : (s : Setting) (above : EnclosingBlocks) (ix : ℕ) (rest : Continuation) (old new : List (Node Item))
    (tables tables' : Tables)
    → CanResolve s.text tables old (Some ix) → ReadsItem s above ix rest old new tables tables'
    → IsUnread (trees_from s.text tables old (Some ix)) → IsUnread (trees_from s.text tables' new rest.next)
unread_read s above ix rest old new tables tables' ready reads h =
    rw reads.puts.rest_is
    (unread_past (read_at s above tables old ix).goes_on (trees_from s.text tables old (sibling_of old ix))
    (unread_after s.text tables old ix ready h))

ready_before : {C : Type 0} {place : ChainPlace} {tree : Arena Item} {old : Resolver C} {ix : ℕ}
    (can : CanReadNode place tree old ix) → CanResolve old.text.now (tables_of old.lookup.tables) tree.nodes (Some ix)
ready_before {C} {place} {tree} {old} {ix} can = subst
    (λ (text : List ℕ). CanResolve text (tables_of old.lookup.tables) tree.nodes (Some ix)) can.text
    (ready_here can.was_read)

-- an item that is not a bracket was read, unless memory was refused
pub other_read : {C E : Type 0} (r : Result Continuation E) (step : C → Question → Option Answer → C → Type 0)
    (place : ChainPlace) (ix : ℕ) (tree tree' : Arena Item) (old new : Resolver C) → CanReadNode place tree old ix
    → kind_of (item_at tree.nodes ix).body ≡ None → ChangesForOther old new
    → IfOk r (λ rest. ReadsOther ix rest tree tree' old new)
    → IfOk r (λ rest. ReadsNode step place ix rest tree tree' old new)
other_read (Ok rest) step place ix tree tree' old new can kind kept reads = record {
  goes_on = record {
    reads = other_on step place ix rest tree tree' old new can kind kept reads.item;
    passes = reads.item.passes;
    unread = λ h. unread_read (setting_by old) (above_cursor old.text.now tree) ix rest tree.nodes tree'.nodes
        (tables_of old.lookup.tables) (tables_of new.lookup.tables) (ready_before can) reads.item h;
    place_is = reads.place_is;
  };
  learned = reads.learned;
  looked = reads.looked;
}
other_read (Err fault) step place ix tree tree' old new can kind kept reads = tt

-- an item was read without a search, by any rules with the syntax of its place
pub only_reads : {C E : Type 0} (r : Result Continuation E) (place : ChainPlace) (tree : Arena Item)
    (old new : Resolver C) (ix : ℕ)
    (tree' : Arena Item) → CanReadOther place tree old ix → IfOk r (λ rest. tree' ≡ record tree { nodes = tree'.nodes })
    → IfOk r (λ rest. (rules : Rules) → rules.syntax ≡ place.syntax
    → ReadsItem (setting_of place.text.now rules) (above_cursor place.text.now tree) ix rest tree.nodes tree'.nodes
    (tables_of old.lookup.tables) (tables_of new.lookup.tables))
    → new.code_closers ≡ old.code_closers → new.math_closers ≡ old.math_closers → new.work ≡ old.work
    → IfOk r (λ rest. ReadsOther ix rest tree tree' old new)
only_reads (Ok rest) place tree old new ix tree' can place_is reads code math work =
    let result : Result Continuation Fault = Ok rest in
    let read = reads_by_rules result place old.text.now
    (rules_from old.syntax old.lookup.tables (is_some old.lookup.callback)) tree ix
    tree'.nodes (tables_of old.lookup.tables) (tables_of new.lookup.tables) can.chain.ready can.text
    can.syntax reads in
    record {
      item = read.reads;
      learned = record {
        code = rw code (read.holds SpanKind.Code old.code_closers can.learned.code);
        math = rw math (read.holds SpanKind.Math old.math_closers can.learned.math);
      };
      looked = record {
        code = rw (code, work) (read.looks (has_failed old.code_closers) old.work.code_visits);
        math = rw (math, work) (read.looks (has_failed old.math_closers) old.work.math_visits);
      };
      place_is = place_is;
    }
only_reads (Err fault) place tree old new ix tree' can place_is reads code math work = tt
