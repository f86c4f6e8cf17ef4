-- One item of the chain after another is counted.
use Rattle.std.proofs.Common.{ℕ, refl, ap, ◌∙◌, arith}
use Rattle.markdown_document.specs.ResolverStates.{items_from}
use Rattle.markdown_document.specs.declared.work.Work.{Work}
use Rattle.markdown_resolver.specs.declared.resolver.Resolver.{Resolver}
use Rattle.markdown_resolver.proofs.PastByteLemmas.{items_fall, spelled_at}
use Rattle.markdown_resolver.proofs.ReadingLemmas.{items_none, counted_more, counted_all}
use Rattle.markdown_resolver.proofs.resolver.Resolver.count_items.Goals as goal

pub next-at-requires : goal.next-at-requires
next-at-requires g c = (spelled_at c.args.tree.now.nodes c.chain.at c.in-Some.ix c.in-Some.is
    c.chain.invariant.spelled).within

pub chain-smaller : goal.chain-smaller
chain-smaller g c =
    let nodes = c.args.tree.now.nodes in
    let one = items_fall nodes c.in-Some.ix
    (spelled_at nodes c.chain.at c.in-Some.ix c.in-Some.is c.chain.invariant.spelled) in
    rw (c.in-Some.is, c.next-at.ensures.value) (omega (arith, one))

pub chain-preserved : goal.chain-preserved
chain-preserved g c =
    let i = c.chain.invariant in
    let nodes = c.args.tree.now.nodes in
    let at = spelled_at nodes c.chain.at c.in-Some.ix c.in-Some.is i.spelled in
    let one = ap (items_from nodes) c.in-Some.is ∙ items_fall nodes c.in-Some.ix at in
    rw c.next-at.ensures.value (record {
      spelled = at.after;
      resolver = rw (c.count_item.ensures, i.resolver) refl;
      counted = counted_more _ c.chain.self.work.items _ _ _ 1 _ i.counted (omega (arith, one))
          (ap (λ (w : Work). w.items) c.count_item.ensures);
    })

pub returns : goal.returns
returns g c =
    let s = c.args.self.now in
    let i = c.chain.invariant in
    let nodes = c.args.tree.now.nodes in
    let items = counted_all s.work.items c.chain.self.work.items _ _ i.counted
    (ap (items_from nodes) c.in_default.is ∙ items_none nodes) in
    i.resolver ∙ ap (λ (n : ℕ). let r : Resolver g.row.F.Denot = record s { work = record s.work { items = n } } in r)
    items
