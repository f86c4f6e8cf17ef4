-- What was read so far of a chain, and what is true of the rest.
use Rattle.std.specs.Prelude.{◌≡◌, ℕ, List, IfSome, Some, is_some, take}
use Rattle.markdown_document.specs.Setting.{rules_from, setting_of}
use Rattle.markdown_document.specs.ResolverStates.{items_from}
use Rattle.markdown_spans.specs.SpanClosers.{has_failed}
use Rattle.markdown_resolver.proofs.ChainReadLemmas.{ReadsUpTo}
use Rattle.markdown_resolver.proofs.ReadingLemmas.{Counted, LookedUpTo}
use Rattle.markdown_resolver.proofs.resolver.Resolver.read_chain.Given as goal
use Rattle.markdown_defs.specs.Footnotes.{footnote_at}
use Rattle.markdown_resolver.specs.ReadsBracket.{HasLearned}

abbrev pub invariant-chain : goal.invariant-chain
invariant-chain g l = record {
  reads : ReadsUpTo g.F.BrokenLinkCallback.answers (setting_of l.fn.self.text.now
      (rules_from l.fn.self.syntax l.fn.self.lookup.tables (is_some l.fn.self.lookup.callback))) l.first l.at
      l.fn.tree l.tree l.fn.self.lookup.tables l.self.lookup.tables l.fn.self.lookup.limit l.self.lookup.limit
      l.fn.self.lookup.callback l.self.lookup.callback l.self.waiting.spent
      l.self.waiting.openers.brackets l.self.waiting.openers.wikilinks;
  can_ask : IfSome l.self.lookup.callback g.F.BrokenLinkCallback.can_ask;
  scanner : l.scanner.text.now ≡ take l.place.block_end l.place.text.now;
  learned : HasLearned l.self l.tree.nodes l.at;
  code_looks : LookedUpTo (has_failed l.self.code_closers) l.fn.self.work.code_visits l.self.work.code_visits
      (items_from l.fn.tree.nodes (Some l.first)) (items_from l.tree.nodes l.at);
  math_looks : LookedUpTo (has_failed l.self.math_closers) l.fn.self.work.math_visits l.self.work.math_visits
      (items_from l.fn.tree.nodes (Some l.first)) (items_from l.tree.nodes l.at);
  counted : Counted l.fn.self.work.items l.self.work.items (items_from l.fn.tree.nodes (Some l.first))
      (items_from l.tree.nodes l.at);
  footnotes : (name : List ℕ) → is_some (footnote_at l.self.lookup.tables.footdefs name)
      ≡ is_some (footnote_at l.fn.self.lookup.tables.footdefs name);
  kept : l.self ≡ record l.fn.self {
    lookup = record l.fn.self.lookup {
      tables = record l.fn.self.lookup.tables {
        cows = l.self.lookup.tables.cows;
        links = l.self.lookup.tables.links;
        footdefs = l.self.lookup.tables.footdefs;
      };
      limit = l.self.lookup.limit;
      callback = l.self.lookup.callback;
    };
    waiting = l.self.waiting;
    work = record l.fn.self.work {
      items = l.self.work.items;
      code_visits = l.self.work.code_visits;
      math_visits = l.self.work.math_visits;
    };
    code_closers = l.self.code_closers;
    math_closers = l.self.math_closers;
  };
}

abbrev pub decreases-chain : goal.decreases-chain
decreases-chain g l = items_from l.tree.nodes l.at
