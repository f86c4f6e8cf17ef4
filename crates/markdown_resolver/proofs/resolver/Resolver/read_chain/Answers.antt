-- One item of the chain after another is read.
use Rattle.std.proofs.Common.{◌≡◌, ℕ, suc, false, List, Option, Some, take, sym, ap, ◌∙◌, refl, subst, arith}
use Rattle.std.specs.Prelude.{is_some}
use Rattle.std.specs.Str.{IsCharBoundary}
use Rattle.markdown_document.specs.Counts.{risen}
use Rattle.markdown_document.specs.Setting.{rules_from, setting_of}
use Rattle.markdown_document.specs.ResolverStates.{items_from}
use Rattle.markdown_spans.specs.SpanClosers.{has_failed}
use Rattle.markdown_brackets.proofs.WrittenLemmas.{whole_range}
use Rattle.markdown_resolver.specs.declared.resolver.Resolver.{Resolver}
use Rattle.markdown_resolver.proofs.ChainReadLemmas.{can_read_on, same_setting, still_asks, up_to_all, up_to_more}
use Rattle.markdown_resolver.proofs.ChainReadLemmas.{up_to_none, up_to_stops}
use Rattle.markdown_resolver.proofs.OpenerReadLemmas.{ready_here}
use Rattle.markdown_resolver.proofs.ReadingLemmas.{counted_all, counted_more, counted_none, items_none, looked_more}
use Rattle.markdown_resolver.proofs.ReadingLemmas.{looked_none}
use Rattle.markdown_resolver.proofs.resolver.Resolver.read_chain.Goals as goal
use Rattle.markdown_resolver.specs.ReadsBracket.{HasLearned}

pub place-place-requires : goal.place-place-requires
place-place-requires g c = record {
  above = rw c.begin_chain.ensures.kept (Some c.args.first, c.requires.ready.above);
  known = rw c.begin_chain.ensures.kept (c.up_to_innermost-block.ensures.known _ c.requires.above);
  block = c.up_to_innermost-block.ensures.value;
}

pub range-requires-clause-end_boundary : goal.range-requires-clause-end_boundary
range-requires-clause-end_boundary g c =
    let stands = c.place-place.ensures.place in
    subst (λ (text : List ℕ). IsCharBoundary text c.place-place.result.block_end) c.place-place.ensures.text
    stands.boundary

pub chain-init : goal.chain-init
chain-init g c =
    let s = c.args.self.now in
    let place = c.place-place.result in
    let all = items_from c.args.tree.now.nodes (Some c.args.first) in
    let b = c.begin_chain.new.self in
    rw c.begin_chain.ensures.kept (record {
      reads = up_to_none g.F.BrokenLinkCallback.answers
          (setting_of s.text.now (rules_from s.syntax s.lookup.tables (is_some s.lookup.callback)))
          c.args.first c.args.tree.now s.lookup.tables s.lookup.limit s.lookup.callback b.waiting.spent
          b.waiting.openers.brackets b.waiting.openers.wikilinks c.requires.ready.ready c.requires.ready.unread
          c.begin_chain.ensures.spent c.begin_chain.ensures.brackets c.begin_chain.ensures.wikilinks;
      can_ask = c.requires.can_ask;
      scanner =
          c.new-scanner.ensures ∙ c.as_bytes.ensures.value ∙ c.range.ensures.value
          ∙ whole_range c.begin_chain.new.self.text.now place.block_end
          ∙ ap (take place.block_end) (sym c.place-place.ensures.text);
      learned = record { code = λ low chain leads. tt; math = λ low chain leads. tt };
      code_looks = looked_none false s.work.code_visits all;
      math_looks = looked_none false s.work.math_visits all;
      counted = counted_none s.work.items all;
      footnotes = λ name. refl;
      kept = refl;
    })

pub read_item-requires : goal.read_item-requires
read_item-requires g c κs =
    let i = c.chain.invariant in
    let text : c.place-place.result.text.now ≡ c.args.self.now.text.now = c.place-place.ensures.text
    ∙ ap (λ (r : Resolver g.row.F.Denot). r.text.now) c.begin_chain.ensures.kept in
    let can = can_read_on i.reads c.requires.ready.above c.place-place.result c.in-Some.ix c.in-Some.is text
    c.place-place.ensures.place in
    let syntax : c.begin_chain.new.self.syntax ≡ c.chain.self.syntax = ap (λ (r : Resolver g.row.F.Denot). r.syntax)
    c.begin_chain.ensures.kept ∙ sym (ap (λ (r : Resolver g.row.F.Denot). r.syntax) i.kept) in (
      (refl, tt),
      (
        i.can_ask,
        (
          record {
            first = c.args.first;
            left = i.reads.reads.left_then;
            was_read = can;
            text = text ∙ sym (ap (λ (r : Resolver g.row.F.Denot). r.text.now) i.kept);
            syntax = c.place-place.ensures.syntax ∙ syntax;
            learned = subst (λ (l : Option ℕ). HasLearned c.chain.self c.chain.tree.nodes l) c.in-Some.is i.learned;
          },
          i.scanner,
        ),
      ),
    )

pub returns-in-Err-clause-stops : goal.returns-in-Err-clause-stops
returns-in-Err-clause-stops g c =
    let s = c.args.self.now in
    let i = c.chain.invariant in
    let at = c.chain.self in
    let text : c.place-place.result.text.now ≡ s.text.now = c.place-place.ensures.text
    ∙ ap (λ (r : Resolver g.row.F.Denot). r.text.now) c.begin_chain.ensures.kept in
    let can = can_read_on i.reads c.requires.ready.above c.place-place.result c.in-Some.ix c.in-Some.is text
    c.place-place.ensures.place in
    let same = same_setting s.text.now at.text.now s.syntax at.syntax s.lookup.tables at.lookup.tables
    (is_some s.lookup.callback) (is_some at.lookup.callback)
    (ap (λ (r : Resolver g.row.F.Denot). r.text.now) i.kept) (ap (λ (r : Resolver g.row.F.Denot). r.syntax) i.kept)
    (ap (λ (r : Resolver g.row.F.Denot). r.lookup.tables.refdefs) i.kept)
    i.footnotes (still_asks i.reads c.requires.ready.above) in
    rw c.count_items.ensures (up_to_stops i.reads c.requires.ready.above
    (setting_of at.text.now (rules_from at.syntax at.lookup.tables (is_some at.lookup.callback))) c.in-Some.ix
    c.read_item.new.self.lookup.callback same
    c.in-Some.is (c.in-Err.ensures.stops.at_node c.args.first i.reads.reads.left_then can))

pub chain-preserved : goal.chain-preserved
chain-preserved g c =
    let s = c.args.self.now in
    let i = c.chain.invariant in
    let at = c.chain.self in
    let new = c.read_item.new in
    let ix = c.in-Some.ix in
    let rest = c.in-Ok.rest in
    let reads = c.in-Ok.ensures.reads in
    let kept = c.read_item.ensures.kept.kept in
    let items = risen (suc rest.passed) new.self.work.items in
    let left = reads.goes_on.passes in
    let text : c.place-place.result.text.now ≡ s.text.now = c.place-place.ensures.text
    ∙ ap (λ (r : Resolver g.row.F.Denot). r.text.now) c.begin_chain.ensures.kept in
    let can = can_read_on i.reads c.requires.ready.above c.place-place.result ix c.in-Some.is text
    c.place-place.ensures.place in
    let same = same_setting s.text.now at.text.now s.syntax at.syntax s.lookup.tables at.lookup.tables
    (is_some s.lookup.callback) (is_some at.lookup.callback)
    (ap (λ (r : Resolver g.row.F.Denot). r.text.now) i.kept) (ap (λ (r : Resolver g.row.F.Denot). r.syntax) i.kept)
    (ap (λ (r : Resolver g.row.F.Denot). r.lookup.tables.refdefs) i.kept)
    i.footnotes (still_asks i.reads c.requires.ready.above) in
    rw c.count_read.ensures (record {
      reads = up_to_more i.reads c.requires.ready.above
          (setting_of at.text.now (rules_from at.syntax at.lookup.tables (is_some at.lookup.callback))) ix rest.next
          new.tree new.self.lookup.tables new.self.lookup.limit new.self.lookup.callback
          new.self.waiting.spent new.self.waiting.openers.brackets new.self.waiting.openers.wikilinks same c.in-Some.is
          reads.goes_on.place_is (reads.goes_on.reads c.args.first i.reads.reads.left_then can) reads.goes_on.unread;
      can_ask = c.read_item.ensures.again;
      scanner = rw c.read_item.ensures.scanner i.scanner;
      learned = record { code = reads.learned.code; math = reads.learned.math };
      code_looks = looked_more (has_failed at.code_closers) (has_failed new.self.code_closers) s.work.code_visits
          at.work.code_visits new.self.work.code_visits _ _ _ (rw c.in-Some.is at i.code_looks) reads.looked.code;
      math_looks = looked_more (has_failed at.math_closers) (has_failed new.self.math_closers) s.work.math_visits
          at.work.math_visits new.self.work.math_visits _ _ _ (rw c.in-Some.is at i.math_looks) reads.looked.math;
      counted = counted_more s.work.items at.work.items items _ _ (suc rest.passed) _ (rw c.in-Some.is at i.counted)
          (omega (arith, left)) (ap (λ (r : Resolver g.row.F.Denot). risen (suc rest.passed) r.work.items) kept);
      footnotes = λ name. c.read_item.ensures.kept.footnotes name ∙ i.footnotes name;
      kept = ap (λ (r : Resolver g.row.F.Denot). let x : Resolver g.row.F.Denot = record r
          { work = record r.work { items = items } } in x) kept
          ∙ ap (λ (r : Resolver g.row.F.Denot). let x : Resolver g.row.F.Denot = record r {
            lookup = record r.lookup {
              tables = record r.lookup.tables {
                cows = new.self.lookup.tables.cows;
                links = new.self.lookup.tables.links;
                footdefs = new.self.lookup.tables.footdefs;
              };
              limit = new.self.lookup.limit;
              callback = new.self.lookup.callback;
            };
            waiting = new.self.waiting;
            work = record r.work {
              items = items;
              code_visits = new.self.work.code_visits;
              math_visits = new.self.work.math_visits;
            };
            code_closers = new.self.code_closers;
            math_closers = new.self.math_closers;
          } in x) i.kept;
    })

pub chain-smaller : goal.chain-smaller
chain-smaller g c = let left = c.in-Ok.ensures.reads.goes_on.passes in rw c.in-Some.is (omega (arith, left))

-- memory was refused: the items from there on are counted
pub count_items-requires : goal.count_items-requires
count_items-requires g c κs =
    let text : c.place-place.result.text.now ≡ c.args.self.now.text.now = c.place-place.ensures.text
    ∙ ap (λ (r : Resolver g.row.F.Denot). r.text.now) c.begin_chain.ensures.kept in
    let can = can_read_on c.chain.invariant.reads c.requires.ready.above c.place-place.result c.in-Some.ix
    c.in-Some.is text c.place-place.ensures.place in
    ((refl, tt), rw c.in-Err.ensures.stops.refused.1 (ready_here can).reaches.spelled)

pub returns-in-Err-clause-counts : goal.returns-in-Err-clause-counts
returns-in-Err-clause-counts g c =
    let s = c.args.self.now in
    let at = c.chain.self in
    let new = c.read_item.new.self in
    let i = c.chain.invariant in
    let same = c.read_item.ensures.kept.kept in
    let stops = c.in-Err.ensures.stops in
    let left = items_from c.chain.tree.nodes (Some c.in-Some.ix) in
    let code = looked_more (has_failed at.code_closers) (has_failed new.code_closers) s.work.code_visits
    at.work.code_visits new.work.code_visits _ _ 0 (rw c.in-Some.is at i.code_looks) stops.looking.code_looks in
    let math = looked_more (has_failed at.math_closers) (has_failed new.math_closers) s.work.math_visits
    at.work.math_visits new.work.math_visits _ _ 0 (rw c.in-Some.is at i.math_looks) stops.looking.math_looks in
    let counted = counted_more s.work.items at.work.items (risen left new.work.items) _ _ left 0
    (rw c.in-Some.is at i.counted) (omega arith) (ap (λ (r : Resolver g.row.F.Denot). risen left r.work.items) same) in
    rw (c.count_items.ensures, stops.refused.1) (record {
      items_counted = counted_all _ _ _ 0 counted refl;
      same_delimiters = ap (λ (r : Resolver g.row.F.Denot). r.work.delimiters) same
          ∙ ap (λ (r : Resolver g.row.F.Denot). r.work.delimiters) i.kept;
      same_examined = ap (λ (r : Resolver g.row.F.Denot). r.work.examined) same
          ∙ ap (λ (r : Resolver g.row.F.Denot). r.work.examined) i.kept;
      code = record { more = code.more; within = code.within; counted = code.counted };
      math = record { more = math.more; within = math.within; counted = math.counted };
    })

pub returns-in-Err-clause-kept : goal.returns-in-Err-clause-kept
returns-in-Err-clause-kept g c = record {
  kept = rw (c.count_items.ensures, c.read_item.ensures.kept.kept, c.chain.invariant.kept) refl;
  footnotes = rw c.count_items.ensures (λ name. c.read_item.ensures.kept.footnotes name
      ∙ c.chain.invariant.footnotes name);
}

pub returns : goal.returns
returns g c =
    let i = c.chain.invariant in
    let code = i.code_looks in
    let math = i.math_looks in
    record {
      reads = record { reads = up_to_all i.reads c.requires.ready.above c.in_default.is; place_is = i.reads.tree };
      refused = tt;
      stops = tt;
      again = i.can_ask;
      counts = record {
        items_counted = counted_all _ _ _ _ i.counted (ap (items_from c.chain.tree.nodes) c.in_default.is
            ∙ items_none c.chain.tree.nodes);
        same_delimiters = ap (λ (r : Resolver g.row.F.Denot). r.work.delimiters) i.kept;
        same_examined = ap (λ (r : Resolver g.row.F.Denot). r.work.examined) i.kept;
        code = record { more = code.more; within = code.within; counted = code.counted };
        math = record { more = math.more; within = math.within; counted = math.counted };
      };
      kept = record { kept = rw i.kept refl; footnotes = i.footnotes };
      above = c.up_to_innermost-block.ensures.known _ c.requires.above;
    }
