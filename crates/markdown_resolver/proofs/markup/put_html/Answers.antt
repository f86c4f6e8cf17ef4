-- What is put is the item up to that byte.
use Rattle.std.proofs.Common.{◌≡◌, ℕ, Some, ap, subst}
use Rattle.markdown_base.specs.BlockTree.{item_at, no_item}
use Rattle.markdown_base.specs.declared.item.Item.{Item}
use Rattle.markdown_resolver.specs.Rewritten.{CanPut, Puts, one_item}
use Rattle.markdown_resolver.proofs.markup.put_html.Goals as goal

pub returns-clause-puts : goal.returns-clause-puts
returns-clause-puts c = λ source tables tables' grown found can.
    let old = c.args.tree.now.nodes in
    let new = c.put_found.new.tree.nodes in
    let from : ℕ → Item = λ start. record { start = start; end = c.args.end; body = c.args.body } in
    let same : c.item.result.now.start ≡ (item_at old c.args.ix).start = ap (λ (item : Item). item.start)
    (c.item.ensures no_item) in
    subst (λ (start : ℕ). CanPut source tables tables' (from start)
    → Puts source c.args.ix (one_item source tables' (from start)) (Some c.args.end) c.put_found.result old new tables
    tables') same (λ can. c.put_found.ensures.puts source tables tables' grown found can same) can
