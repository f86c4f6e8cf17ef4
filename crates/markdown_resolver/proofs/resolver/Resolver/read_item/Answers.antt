-- A bracket is read, or another item.
use Rattle.std.proofs.Common.{◌≡◌, Some, None, refl, sym, ap, ◌∙◌, subst}
use Rattle.std.proofs.lemmas.Result.{IfOk-weaker, IfErr-weaker}
use Rattle.std.specs.Prelude.{IfSome}
use Rattle.markdown_base.specs.BlockTree.{item_at, no_item}
use Rattle.markdown_base.specs.declared.item.Item.{Item}
use Rattle.markdown_document.specs.ResolverStates.{above_cursor}
use Rattle.markdown_resolver.specs.BracketKinds.{kind_of}
use Rattle.markdown_resolver.specs.ReadsBracket.{setting_by, resolver_state_by}
use Rattle.markdown_resolver.specs.declared.resolver.Resolver.{Resolver}
use Rattle.markdown_resolver.proofs.ChainReadLemmas.{can_read_item}
use Rattle.markdown_resolver.proofs.NodeReadLemmas.{bracket_changes, bracket_read, bracket_stops, other_changes}
use Rattle.markdown_resolver.proofs.NodeReadLemmas.{other_read}
use Rattle.markdown_resolver.proofs.OpenerReadLemmas.{if_err_both, ready_here}
use Rattle.markdown_resolver.proofs.LiteralTextLemmas.{node_within}
use Rattle.markdown_resolver.proofs.StopsLemmas.{stops_here}
use Rattle.markdown_resolver.proofs.resolver.Resolver.read_item.Goals as goal

pub item-requires : goal.item-requires
item-requires g c = node_within (ready_here c.requires.ready.was_read)

pub read_bracket-requires : goal.read_bracket-requires
read_bracket-requires g c κs =
    let kind : kind_of (item_at c.args.tree.now.nodes c.args.ix).body ≡ Some c.in-Some.bracket =
    ap (λ (item : Item). kind_of item.body) (sym (c.item.ensures no_item)) ∙ sym c.kind_of.ensures ∙ c.in-Some.is in
    ((refl, tt), (c.requires.can_ask, (c.requires.ready, kind)))

pub returns-in-Some : goal.returns-in-Some
returns-in-Some g c =
    let e = c.read_bracket.ensures in
    let new = c.read_bracket.new.self in
    record {
      reads = IfOk-weaker c.read_bracket.result _ _ (λ rest r. bracket_read c.requires.ready e.kept r) e.reads;
      stops = IfErr-weaker c.read_bracket.result _ _ (λ fault both. record {
        refused = both.0;
        at_node = both.1;
        looking = bracket_stops c.args.ix c.args.tree.now c.args.self.now new e.kept;
      }) (if_err_both c.read_bracket.result _ _ e.refused e.stops);
      again = e.again;
      scanner = refl;
      kept = bracket_changes e.kept;
    }

pub read_other-requires : goal.read_other-requires
read_other-requires g c κs =
    let can = c.requires.ready in (
      (refl, tt),
      (
        record { chain = can_read_item can.was_read; text = can.text; syntax = can.syntax; learned = can.learned },
        c.requires.scanner,
      ),
    )

pub returns-in-None : goal.returns-in-None
returns-in-None g c =
    let s = c.args.self.now in
    let t = c.args.tree.now in
    let new = c.read_other.new in
    let e = c.read_other.ensures in
    let kind : kind_of (item_at t.nodes c.args.ix).body ≡ None =
    ap (λ (item : Item). kind_of item.body) (sym (c.item.ensures no_item)) ∙ sym c.kind_of.ensures ∙ c.in-None.is in
    record {
      reads = other_read c.read_other.result g.F.BrokenLinkCallback.answers c.args.place.now c.args.ix t new.tree s
          new.self c.requires.ready kind e.kept e.reads;
      stops = IfErr-weaker c.read_other.result _ _ (λ fault both. record {
        refused = both.0;
        at_node = λ first left was_read.
            stops_here g.F.BrokenLinkCallback.answers (setting_by s) (above_cursor s.text.now t) (Some c.args.ix) left
            (resolver_state_by t s)
            s.waiting.spent new.self.lookup.callback (ap (λ (r : Resolver g.row.F.Denot). r.lookup.callback) e.kept);
        looking = both.1;
      }) (if_err_both c.read_other.result _ _ e.refused e.stops);
      again = subst (λ (r : Resolver g.row.F.Denot). IfSome r.lookup.callback g.F.BrokenLinkCallback.can_ask)
          (sym e.kept) c.requires.can_ask;
      scanner = e.scanner;
      kept = other_changes e.kept;
    }
