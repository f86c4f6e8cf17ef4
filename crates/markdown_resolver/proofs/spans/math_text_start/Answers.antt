-- Where the text of a math span starts: the nodes that are read are there.
use Rattle.markdown_spans.proofs.ChainWalkLemmas.{chain_at}
use Rattle.markdown_resolver.proofs.spans.math_text_start.Goals as goal

pub next-requires : goal.next-requires
next-requires c = (chain_at c.args.tree.now.nodes c.args.ix c.requires).within

pub item-requires-in_default : goal.item-requires-in_default
item-requires-in_default c = (chain_at c.args.tree.now.nodes c.args.ix c.requires).within
