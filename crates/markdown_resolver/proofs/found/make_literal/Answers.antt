-- A literal item replaces what was read.
use Rattle.std.proofs.Common.{◌≡◌, ap}
use Rattle.markdown_resolver.specs.LiteralText.{literal_at}
use Rattle.markdown_resolver.proofs.LiteralTextLemmas.{node_within, settle_puts}
use Rattle.markdown_resolver.proofs.found.make_literal.Goals as goal

pub next-next-requires : goal.next-next-requires
next-next-requires c = node_within c.requires.2

pub make_node_literal-requires : goal.make_node_literal-requires
make_node_literal-requires c = node_within c.requires.2

pub returns-clause-puts : goal.returns-clause-puts
returns-clause-puts c source tables ready =
    let nodes : c.make_node_literal.new.tree.nodes ≡ literal_at c.args.ix c.args.tree.now.nodes = ap (λ t. t.nodes)
    c.make_node_literal.ensures in
    rw (c.next-next.ensures.value, nodes) (settle_puts ready)
