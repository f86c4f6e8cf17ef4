-- Reading a backtick run: the contracts of the searches and the writes give what the lemmas on code spans require.
use Rattle.std.proofs.Common.{None, ap, subst, refl}
use Rattle.markdown_base.specs.BlockTree.{item_at, no_item}
use Rattle.markdown_document.specs.ResolverStates.{above_cursor}
use Rattle.markdown_document.specs.Setting.{Setting, setting_of, rules_from}
use Rattle.markdown_document.specs.Tables.{tables_of}
use Rattle.markdown_resolver.specs.declared.continuation.Continuation.{Continuation}
use Rattle.markdown_spans.specs.SpanClosers.{ClosesCode, has_failed}
use Rattle.markdown_spans.specs.declared.span_text.SpanKind.TheVariants.{Code}
use Rattle.markdown_resolver.proofs.ChainLeadsLemmas.{chain_leads}
use Rattle.markdown_resolver.proofs.CodeSpanLemmas.{code_cut, code_reads, found_code, nothing_reads}
use Rattle.markdown_resolver.proofs.OpenerReadLemmas.{if_err}
use Rattle.markdown_resolver.proofs.ReadsItemLemmas.{holds_put, reads_item}
use Rattle.markdown_resolver.proofs.SpanLooksLemmas.{code_search, code_up_to, nothing_looks, search_refused}
use Rattle.markdown_resolver.proofs.SpanLooksLemmas.{search_stops, something_looks}
use Rattle.markdown_resolver.proofs.resolver.Resolver.read_code.Goals as goal
use Rattle.std.specs.Prelude.{Result, Ok, is_some}
use Rattle.markdown_base.specs.Syntax.{gfm_footnotes}
use Rattle.markdown_base.specs.declared.fault.Fault.{Fault}
use Rattle.markdown_spans.specs.declared.span_text.SpanKind.{SpanKind}
use Rattle.markdown_resolver.proofs.ReadingLemmas.{reads_by_rules, stops_at_none}

pub find_code_closer-requires : goal.find_code_closer-requires
find_code_closer-requires g c =
    let chain = chain_leads c.requires.ready.chain.ready in
    record { ready = record { chain = chain; holds = c.requires.ready.learned.code } }

-- nothing closes it: it becomes literal text
pub returns-in_default-clause-reads : goal.returns-in_default-clause-reads
returns-in_default-clause-reads g c =
    let s = c.args.self.now in
    let place = c.args.place.now in
    let tree = c.args.tree.now in
    let nodes = tree.nodes in
    let ix = c.args.ix in
    let tables = tables_of s.lookup.tables in
    let ready = c.requires.ready.chain.ready in
    let stands = c.requires.ready.chain.stands in
    let o = c.requires.opener in
    let found = c.in_ok-closer.ensures in
    let closes : ClosesCode nodes ix None = subst (ClosesCode nodes ix) c.in_default.is found.found in
    let puts = c.make_literal.ensures.puts place.text.now tables ready in
    let result : Result Continuation Fault = Ok c.make_literal.result in
    let read = reads_by_rules result place s.text.now (rules_from s.syntax s.lookup.tables (is_some s.lookup.callback))
    tree ix
    c.make_literal.new.tree.nodes tables tables ready c.requires.ready.text
    c.requires.ready.syntax
    (λ rules same. let set : Setting = setting_of place.text.now rules in
    reads_item ready (nothing_reads set (above_cursor set.text tree) tables nodes ix o.0 o.1 ready o.2 closes) puts) in
    record {
      item = read.reads;
      learned = record {
        code = holds_put Code c.find_code_closer.new.self ready puts found.learned;
        math = read.holds SpanKind.Math s.math_closers c.requires.ready.learned.math;
      };
      looked = record {
        code = nothing_looks (code_search (item_at nodes ix)) s.code_closers s.work.code_visits
            c.find_code_closer.new.visits ready c.find_code_closer.new.self found.counted found.failed c.in_default.is
            puts;
        math = read.looks (has_failed s.math_closers) s.work.math_visits;
      };
      place_is = c.make_literal.ensures.place;
    }

-- an item closes it: the text between them is taken
pub store_text-requires : goal.store_text-requires
store_text-requires g c κs =
    let cut =
    code_cut c.requires.ready.chain.ready c.requires.opener.2
    c.in_ok-closer.ensures.found c.in-Some.is (c.item.ensures no_item) (c.item-2.ensures no_item) in
    ((refl, tt), cut)

-- and the span is put
pub put_code-requires : goal.put_code-requires
put_code-requires g c =
    let tables = tables_of c.args.self.now.lookup.tables in
    let tables' = tables_of c.store_text.new.self.lookup.tables in
    let found = c.in_ok-closer.ensures in (
      c.args.place.now.text.now,
      tables,
      tables',
      (found_code c.requires.ready.chain.ready c.requires.opener.2 found.found c.in-Some.is found.within
          (c.item.ensures no_item) (c.item-2.ensures no_item) c.in_ok-cow.ensures.stored
          ).can,
    )

pub returns-clause-reads : goal.returns-clause-reads
returns-clause-reads g c =
    let s = c.args.self.now in
    let place = c.args.place.now in
    let tree = c.args.tree.now in
    let nodes = tree.nodes in
    let ix = c.args.ix in
    let x = c.in-Some.closer in
    let tables = tables_of s.lookup.tables in
    let tables' = tables_of c.store_text.new.self.lookup.tables in
    let ready = c.requires.ready.chain.ready in
    let stands = c.requires.ready.chain.stands in
    let o = c.requires.opener in
    let found = c.in_ok-closer.ensures in
    let result : Result Continuation Fault = Ok c.put_code.result in
    let here = found_code ready o.2 found.found c.in-Some.is found.within (c.item.ensures no_item)
    (c.item-2.ensures no_item) c.in_ok-cow.ensures.stored in
    let was_put = c.put_code.ensures.puts place.text.now tables tables' here.can in
    let text = rw (c.item.ensures no_item, c.item-2.ensures no_item) at c.in_ok-cow.ensures.text in
    let origin = rw (c.item.ensures no_item, c.item-2.ensures no_item, stands.in_table)
    at c.in_ok-cow.ensures.stored.origin_is in
    let read = reads_by_rules result place s.text.now (rules_from s.syntax s.lookup.tables (is_some s.lookup.callback))
    tree ix
    c.put_code.new.tree.nodes tables tables' ready c.requires.ready.text c.requires.ready.syntax
    (λ rules same. let set : Setting = setting_of place.text.now rules in
    reads_item ready (code_reads set (above_cursor set.text tree) tables tables' nodes ix x o.0 o.1 c.in_ok-cow.cow
    ready o.2 here.closes (text tree rules stands (ap gfm_footnotes same)) origin) was_put) in
    record {
      item = read.reads;
      learned = rw c.store_text.ensures.kept (record {
        code = holds_put Code c.find_code_closer.new.self ready was_put found.learned;
        math = read.holds SpanKind.Math s.math_closers c.requires.ready.learned.math;
      });
      looked = rw c.store_text.ensures.kept (record {
        code = something_looks (code_search (item_at nodes ix)) s.code_closers s.work.code_visits
            c.find_code_closer.new.visits ready c.find_code_closer.new.self
            (code_up_to place.text.now tables nodes ix x o.0 o.1 ready o.2 here.closes) found.counted found.failed
            c.in-Some.is was_put;
        math = read.looks (has_failed s.math_closers) s.work.math_visits;
      });
      place_is = c.put_code.ensures.place;
    }

pub returns-clause-kept : goal.returns-clause-kept
returns-clause-kept g c = rw c.store_text.ensures.kept refl

-- memory was refused to the search
pub returns-in_err-closer-clause-stops : goal.returns-in_err-closer-clause-stops
returns-in_err-closer-clause-stops g c =
    let s = c.args.self.now in
    let refused = c.in_err-closer.ensures in
    if_err c.from_residual.result (rw refused.unchanged (record {
      code_looks = search_refused (code_search (item_at c.args.tree.now.nodes c.args.ix)) s.code_closers
          s.work.code_visits c.find_code_closer.new.visits c.requires.ready.chain.ready refused.counted_at_most;
      math_looks = stops_at_none (has_failed s.math_closers) s.work.math_visits _;
    }))

-- or to the text of what it has found
pub returns-in_err-cow-clause-stops : goal.returns-in_err-cow-clause-stops
returns-in_err-cow-clause-stops g c =
    let s = c.args.self.now in
    let found = c.in_ok-closer.ensures in
    if_err c.from_residual-in_err-cow.result (rw c.store_text.ensures.kept (record {
      code_looks = search_stops (code_search (item_at c.args.tree.now.nodes c.args.ix)) s.code_closers
          s.work.code_visits c.find_code_closer.new.visits c.requires.ready.chain.ready c.find_code_closer.new.self _
          found.counted found.failed;
      math_looks = stops_at_none (has_failed s.math_closers) s.work.math_visits _;
    }))

pub returns-in_err-cow-clause-kept : goal.returns-in_err-cow-clause-kept
returns-in_err-cow-clause-kept g c = rw c.store_text.ensures.kept refl
