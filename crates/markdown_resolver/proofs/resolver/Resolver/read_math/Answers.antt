-- Reading a `$`: the contracts of the searches and the writes give what the lemmas on math spans require.
use Rattle.std.proofs.Common.{Some, None, ap, subst, refl, ◌∙◌}
use Rattle.markdown_base.specs.BlockTree.{item_at, no_item}
use Rattle.markdown_base.specs.declared.item.Item.{Item}
use Rattle.markdown_document.specs.ResolverStates.{above_cursor}
use Rattle.markdown_document.specs.Setting.{Setting, setting_of, rules_from}
use Rattle.markdown_document.specs.Tables.{tables_of}
use Rattle.markdown_resolver.specs.declared.continuation.Continuation.{Continuation}
use Rattle.markdown_spans.specs.SpanClosers.{ClosesMath, has_failed}
use Rattle.markdown_spans.specs.declared.span_text.SpanKind.TheVariants.{Math}
use Rattle.markdown_resolver.specs.Rewritten.{Puts, one_item}
use Rattle.markdown_resolver.proofs.ChainLeadsLemmas.{chain_leads}
use Rattle.markdown_resolver.proofs.LiteralTextLemmas.{node_within}
use Rattle.markdown_resolver.proofs.MathSpanLemmas.{PutsMath, dollar_body, math_cut, math_item, math_reads}
use Rattle.markdown_resolver.proofs.MathSpanLemmas.{no_math_reads, puts_math, span_of, start_is}
use Rattle.markdown_resolver.proofs.OpenerReadLemmas.{if_err}
use Rattle.markdown_resolver.proofs.ReadsItemLemmas.{holds_put, reads_item}
use Rattle.markdown_resolver.proofs.SpanLooksLemmas.{math_search, math_up_to, nothing_looks, search_refused}
use Rattle.markdown_resolver.proofs.SpanLooksLemmas.{search_stops, something_looks}
use Rattle.markdown_resolver.proofs.resolver.Resolver.read_math.Goals as goal
use Rattle.std.proofs.lemmas.Result.{IfOk-from_err, err_from_is_err_and}
use Rattle.std.specs.Prelude.{Result, Ok, is_some}
use Rattle.markdown_base.specs.Syntax.{gfm_footnotes}
use Rattle.markdown_base.specs.declared.fault.Fault.{Fault}
use Rattle.markdown_spans.specs.declared.span_text.SpanKind.{SpanKind}
use Rattle.markdown_resolver.proofs.ReadingLemmas.{reads_by_rules, stops_at_none}

pub find_math_closer-requires : goal.find_math_closer-requires
find_math_closer-requires g c =
    let chain = chain_leads c.requires.ready.chain.ready in
    record { ready = record { chain = chain; holds = c.requires.ready.learned.math } }

pub make_literal-requires : goal.make_literal-requires
make_literal-requires g c =
    (c.args.place.now.text.now, tables_of c.args.self.now.lookup.tables, c.requires.ready.chain.ready)

pub returns-in_default-clause-kept : goal.returns-in_default-clause-kept
returns-in_default-clause-kept g c = refl

-- nothing closes it: it becomes literal text
pub returns-in_default-clause-reads : goal.returns-in_default-clause-reads
returns-in_default-clause-reads g c =
    let s = c.args.self.now in
    let place = c.args.place.now in
    let tree = c.args.tree.now in
    let nodes = tree.nodes in
    let ix = c.args.ix in
    let tables = tables_of s.lookup.tables in
    let ready = c.requires.ready.chain.ready in
    let stands = c.requires.ready.chain.stands in
    let d = dollar_body (item_at nodes ix).body c.requires.opener in
    let found = c.in_ok-math.ensures in
    let closes : ClosesMath nodes ix None = subst (ClosesMath nodes ix) c.in_default.is found.found in
    let puts = c.make_literal.ensures.puts place.text.now tables ready in
    let result : Result Continuation Fault = Ok c.make_literal.result in
    let read = reads_by_rules result place s.text.now (rules_from s.syntax s.lookup.tables (is_some s.lookup.callback))
    tree ix
    c.make_literal.new.tree.nodes tables tables ready c.requires.ready.text
    c.requires.ready.syntax
    (λ rules same. let set : Setting = setting_of place.text.now rules in
    reads_item ready (no_math_reads set (above_cursor set.text tree) tables nodes ix d.opens d.closes d.context ready
    d.is closes) puts) in
    record {
      item = read.reads;
      learned = record {
        code = read.holds SpanKind.Code s.code_closers c.requires.ready.learned.code;
        math = holds_put Math c.find_math_closer.new.self ready puts found.learned;
      };
      looked = record {
        code = read.looks (has_failed s.code_closers) s.work.code_visits;
        math = nothing_looks (math_search (item_at nodes ix)) s.math_closers s.work.math_visits
            c.find_math_closer.new.visits ready c.find_math_closer.new.self found.counted found.failed c.in_default.is
            puts;
      };
      place_is = c.make_literal.ensures.place;
    }

-- something closes it: the text between them is taken
pub math_text_start-requires : goal.math_text_start-requires
math_text_start-requires g c = chain_leads c.requires.ready.chain.ready

pub item-requires : goal.item-requires
item-requires g c = (rw c.in-Some.is at c.in_ok-math.ensures.within).closer

pub item-requires-2 : goal.item-requires-2
item-requires-2 g c = node_within c.requires.ready.chain.ready

pub item-requires-3 : goal.item-requires-3
item-requires-3 g c = (rw c.in-Some.is at c.in_ok-math.ensures.within).last

pub store_text-requires : goal.store_text-requires
store_text-requires g c κs =
    let cut =
    math_cut c.requires.ready.chain.ready c.in_ok-math.ensures.found c.in-Some.is c.math_text_start.ensures
    (c.item.ensures no_item) in
    ((refl, tt), cut)

-- and the span is put
pub put_found-requires : goal.put_found-requires
put_found-requires g c =
    let tables = tables_of c.args.self.now.lookup.tables in
    let tables' = tables_of c.store_text.new.self.lookup.tables in
    let opens = c.item-2.ensures no_item in
    let stored = c.in_ok-cow.ensures.stored in
    let p = puts_math c.requires.ready.chain.ready
    c.requires.opener c.in_ok-math.ensures.found c.in-Some.is opens (c.item-3.ensures no_item) (c.item.ensures no_item)
    (start_is c.args.place.now.text.now (tables_of c.args.self.now.lookup.tables) c.args.tree.now.nodes c.args.ix
    c.math_text_start.result c.requires.ready.chain.ready c.math_text_start.ensures) stored in
    (c.args.place.now.text.now, tables, tables', stored.grown, p.found, p.can, ap (λ (i : Item). i.start) opens)

pub returns-clause-reads : goal.returns-clause-reads
returns-clause-reads g c =
    let s = c.args.self.now in
    let place = c.args.place.now in
    let tree = c.args.tree.now in
    let nodes = tree.nodes in
    let ix = c.args.ix in
    let m = c.in-Some.math in
    let tables = tables_of s.lookup.tables in
    let tables' = tables_of c.store_text.new.self.lookup.tables in
    let ready = c.requires.ready.chain.ready in
    let stands = c.requires.ready.chain.stands in
    let d = dollar_body (item_at nodes ix).body c.requires.opener in
    let found = c.in_ok-math.ensures in
    let start = start_is place.text.now tables nodes ix c.math_text_start.result ready c.math_text_start.ensures in
    let result : Result Continuation Fault = Ok c.put_found.result in
    let standing_item = math_item nodes ix m c.in_ok-cow.cow in
    let here : PutsMath place.text.now tables tables' nodes ix m c.in_ok-cow.cow
    (span_of c.item-2.result.now c.item-3.result.now m c.in_ok-cow.cow) =
    puts_math ready c.requires.opener found.found c.in-Some.is
    (c.item-2.ensures no_item) (c.item-3.ensures no_item) (c.item.ensures no_item) start c.in_ok-cow.ensures.stored in
    let was_put : Puts place.text.now ix (one_item place.text.now tables' standing_item) (Some standing_item.end)
    c.put_found.result nodes c.put_found.new.tree.nodes tables tables' =
    subst (λ (i : Item). Puts place.text.now ix (one_item place.text.now tables' i) (Some i.end) c.put_found.result
    nodes c.put_found.new.tree.nodes tables tables') here.is
    (c.put_found.ensures.puts place.text.now tables tables' c.in_ok-cow.ensures.stored.grown here.found here.can
    (ap (λ (i : Item). i.start) (c.item-2.ensures no_item))) in
    let text = rw (start, c.item.ensures no_item) at c.in_ok-cow.ensures.text in
    let origin = rw (start, c.item.ensures no_item, stands.in_table) at c.in_ok-cow.ensures.stored.origin_is in
    let read = reads_by_rules result place s.text.now (rules_from s.syntax s.lookup.tables (is_some s.lookup.callback))
    tree ix
    c.put_found.new.tree.nodes tables tables' ready c.requires.ready.text c.requires.ready.syntax
    (λ rules same. let set : Setting = setting_of place.text.now rules in
    reads_item ready (math_reads set (above_cursor set.text tree) tables tables' nodes ix m d.opens d.closes d.context
    c.in_ok-cow.cow ready d.is here.closes (text tree rules stands (ap gfm_footnotes same)) origin) was_put) in
    record {
      item = read.reads;
      learned = rw c.store_text.ensures.kept (record {
        code = read.holds SpanKind.Code s.code_closers c.requires.ready.learned.code;
        math = holds_put Math c.find_math_closer.new.self ready was_put found.learned;
      });
      looked = rw c.store_text.ensures.kept (record {
        code = read.looks (has_failed s.code_closers) s.work.code_visits;
        math = something_looks (math_search (item_at nodes ix)) s.math_closers s.work.math_visits
            c.find_math_closer.new.visits ready c.find_math_closer.new.self
            (math_up_to place.text.now tables nodes ix m ready here.closes) found.counted found.failed c.in-Some.is
            was_put;
      });
      place_is = c.put_found.ensures.place;
    }

pub returns-clause-kept : goal.returns-clause-kept
returns-clause-kept g c = rw c.store_text.ensures.kept refl

-- memory was refused to the search
pub returns-in_err-math-clause-stops : goal.returns-in_err-math-clause-stops
returns-in_err-math-clause-stops g c =
    let s = c.args.self.now in
    let refused = c.in_err-math.ensures in
    if_err c.from_residual.result (rw refused.unchanged (record {
      code_looks = stops_at_none (has_failed s.code_closers) s.work.code_visits _;
      math_looks = search_refused (math_search (item_at c.args.tree.now.nodes c.args.ix)) s.math_closers
          s.work.math_visits c.find_math_closer.new.visits c.requires.ready.chain.ready refused.counted_at_most;
    }))

pub returns-in_err-math-clause-reads : goal.returns-in_err-math-clause-reads
returns-in_err-math-clause-reads g c = IfOk-from_err _ _ c.from_residual.ensures.0

pub returns-in_err-math-clause-refused : goal.returns-in_err-math-clause-refused
returns-in_err-math-clause-refused g c =
    let error = err_from_is_err_and c.from_residual.result c.from_residual.ensures.1 in
    rw error.1 (error.2, refl)

pub returns-in_err-math-clause-kept : goal.returns-in_err-math-clause-kept
returns-in_err-math-clause-kept g c = refl

-- or to the text of what it has found
pub returns-in_err-cow-clause-reads : goal.returns-in_err-cow-clause-reads
returns-in_err-cow-clause-reads g c = IfOk-from_err _ _ c.from_residual-in_err-cow.ensures.0

pub returns-in_err-cow-clause-refused : goal.returns-in_err-cow-clause-refused
returns-in_err-cow-clause-refused g c =
    let error = err_from_is_err_and c.from_residual-in_err-cow.result c.from_residual-in_err-cow.ensures.1 in
    rw error.1 (error.2 ∙ c.in_err-cow.ensures.refused, refl)

pub returns-in_err-cow-clause-stops : goal.returns-in_err-cow-clause-stops
returns-in_err-cow-clause-stops g c =
    let s = c.args.self.now in
    let found = c.in_ok-math.ensures in
    if_err c.from_residual-in_err-cow.result (rw c.store_text.ensures.kept (record {
      code_looks = stops_at_none (has_failed s.code_closers) s.work.code_visits _;
      math_looks = search_stops (math_search (item_at c.args.tree.now.nodes c.args.ix)) s.math_closers
          s.work.math_visits c.find_math_closer.new.visits c.requires.ready.chain.ready c.find_math_closer.new.self _
          found.counted found.failed;
    }))

pub returns-in_err-cow-clause-kept : goal.returns-in_err-cow-clause-kept
returns-in_err-cow-clause-kept g c = rw c.store_text.ensures.kept refl
