-- What pass one has read is paired.
use Rattle.std.proofs.Common.{◌∙◌, ap, refl, subst}
use Rattle.std.specs.Prelude.{is_some, Some}
use Rattle.markdown_base.specs.Arena.{Arena}
use Rattle.markdown_base.specs.declared.item.Item.{Item}
use Rattle.markdown_document.specs.Setting.{rules_from, setting_of}
use Rattle.markdown_document.specs.Counts.{RisesAtLeast}
use Rattle.markdown_document.specs.Places.{trees_from}
use Rattle.markdown_document.specs.ResolverStates.{chain_at, resolver_state, above_cursor}
use Rattle.markdown_document.specs.Tables.{tables_of}
use Rattle.markdown_delims.specs.PairingFinds.{finds_in}
use Rattle.markdown_resolver.specs.declared.resolver.Resolver.{Resolver}
use Rattle.markdown_resolver.proofs.OpenerReadLemmas.{if_err}
use Rattle.markdown_resolver.proofs.PairedLemmas.{read_can_pair, then_pairs, stops_in, stops_resolving}
use Rattle.markdown_resolver.proofs.WorkLemmas.{counts_in_part, counts_rise, read_in_part}
use Rattle.markdown_document.proofs.CountLemmas.{rises_at_none}
use Rattle.markdown_resolver.proofs.resolver.Resolver.resolve_chain.Goals as goal

pub pair_chain-requires : goal.pair_chain-requires
pair_chain-requires g c =
    let can = read_can_pair _ _ _ _ _ _ c.requires.ready.ready.quiet_below c.in_ok-read_chain.ensures.reads.reads in
    record { chain = rw c.read_chain.ensures.kept.kept can }

pub returns-in_err-read_chain-clause-stops : goal.returns-in_err-read_chain-clause-stops
returns-in_err-read_chain-clause-stops g c =
    let s = c.args.self.now in
    let rules = rules_from s.syntax s.lookup.tables (is_some s.lookup.callback) in
    let read = c.read_chain.ensures.counts in
    if_err c.from_residual.result (stops_resolving _ _ _ _ _ _ s.work c.read_chain.new.self.work
    c.in_err-read_chain.ensures.stops (λ later. read_in_part (setting_of s.text.now rules)
    (above_cursor s.text.now c.args.tree.now) c.args.first
    (resolver_state c.args.tree.now s.lookup.tables s.lookup.limit s.lookup.callback) _ s.work
    c.read_chain.new.self.work read))

pub returns-in_err-pair_chain-clause-stops : goal.returns-in_err-pair_chain-clause-stops
returns-in_err-pair_chain-clause-stops g c =
    let reads = c.in_ok-read_chain.ensures.reads.reads in
    let paired = c.pair_chain.ensures in
    let read = c.read_chain.ensures.counts in
    if_err c.from_residual-in_err-pair_chain.result
    (stops_in _ _ _ _ _ _ c.args.self.now.work c.pair_chain.new.work reads
    (counts_in_part _ _ _ _ _ _ c.args.self.now.work c.read_chain.new.self.work c.pair_chain.new.work reads read
    (record { counted = paired.counted; compared = paired.examined; finds = rises_at_none _ _ _ paired.examined })))

pub returns-clause-resolves : goal.returns-clause-resolves
returns-clause-resolves g c =
    let s = c.args.self.now in
    let rules = rules_from s.syntax s.lookup.tables (is_some s.lookup.callback) in
    let setting = setting_of s.text.now rules in
    let after = c.read_chain.new.self in
    let mid = resolver_state c.read_chain.new.tree after.lookup.tables after.lookup.limit after.lookup.callback in
    let kept = c.read_chain.ensures.kept.kept in
    let reads = c.in_ok-read_chain.ensures.reads in
    let pairs = rw kept at (c.in_ok-pair_chain.ensures.pairs rules (rw kept refl)) in
    let finds : RisesAtLeast (finds_in setting (chain_at s.text.now mid (Some c.args.first))) after.work.examined
    c.pair_chain.new.work.examined =
    subst (λ text. RisesAtLeast
    (finds_in (setting_of text rules) (trees_from text (tables_of after.lookup.tables) c.read_chain.new.tree.nodes
    (Some c.args.first)))
    after.work.examined c.pair_chain.new.work.examined) (ap (λ (r : Resolver g.row.F.Denot). r.text.now) kept)
    (c.in_ok-pair_chain.ensures.found rules (tables_of after.lookup.tables) (rw kept refl)) in
    let read = c.read_chain.ensures.counts in
    record {
      tree = c.in_ok-pair_chain.ensures.place ∙ ap (λ (t : Arena Item). let u : Arena Item =
          record t { nodes = c.pair_chain.new.tree.nodes } in u) reads.place_is;
      tables = rw kept refl;
      footnotes = λ name. c.read_chain.ensures.kept.footnotes name;
      chain = then_pairs _ _ _ _ _ _ c.pair_chain.new.tree.nodes c.requires.ready.ready.quiet_below reads.reads pairs;
      counted = counts_rise _ _ _ _ _ _ s.work after.work c.pair_chain.new.work reads.reads read
          (record { counted = c.pair_chain.ensures.counted; compared = c.pair_chain.ensures.examined; finds = finds });
    }
