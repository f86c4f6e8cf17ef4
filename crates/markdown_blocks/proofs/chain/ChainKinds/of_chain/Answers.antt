-- Each step along the chain, by the lemmas on how a link opens.
use Rattle.std.proofs.Common.{◌∙◌, ap}
use Rattle.markdown_base.specs.BlockTree.{no_item}
use Rattle.markdown_base.specs.Item.{is_open, is_inline, is_tight_paragraph}
use Rattle.std.specs.Prelude.{◌||◌, ◌&&◌}
use Rattle.markdown_blocks.proofs.NodeLemmas.{opens_at, chain_falls, tells_more, tells_all}
use Rattle.markdown_blocks.proofs.chain.ChainKinds.of_chain.Goals as goal

pub item-requires : goal.item-requires
item-requires c = (opens_at c.args.tree.now.nodes c.in-Some.ix (rw c.in-Some.is at c.chain.invariant.leads)).within

pub next-link-requires : goal.next-link-requires
next-link-requires c = (opens_at c.args.tree.now.nodes c.in-Some.ix (rw c.in-Some.is at c.chain.invariant.leads)).within

pub chain-smaller : goal.chain-smaller
chain-smaller c =
    let falls = chain_falls c.args.tree.now.nodes c.in-Some.ix c.next-link.result
    (rw c.in-Some.is at c.chain.invariant.leads)
    c.next-link.ensures.value in
    rw c.in-Some.is falls

pub chain-preserved : goal.chain-preserved
chain-preserved c =
    let body = ap (λ i. i.body) (c.item.ensures no_item) in
    tells_more c.args.tree.now.nodes c.args.first c.in-Some.ix c.chain.kinds c.with-kinds.result c.next-link.result
    (rw c.in-Some.is at c.chain.invariant)
    (c.with-kinds.ensures.any_open ∙ ap (λ b. c.chain.kinds.any_open || is_open b) body)
    (c.with-kinds.ensures.only_inline ∙ ap (λ b. c.chain.kinds.only_inline && is_inline b) body)
    (c.with-kinds.ensures.any_tight ∙ ap (λ b. c.chain.kinds.any_tight || is_tight_paragraph b) body)
    c.next-link.ensures.value

pub returns : goal.returns
returns c = tells_all c.args.tree.now.nodes c.args.first c.chain.link c.chain.kinds c.chain.invariant c.in_default.is
