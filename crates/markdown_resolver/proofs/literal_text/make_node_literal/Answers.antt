-- An item that becomes a Text is written as one; another is what it was.
use Rattle.std.proofs.Common.{◌∙◌, sym}
use Rattle.markdown_base.specs.BlockTree.{no_item}
use Rattle.markdown_resolver.proofs.LiteralTextLemmas.{settled_open, settled_closed}
use Rattle.markdown_resolver.proofs.literal_text.make_node_literal.Goals as goal

pub returns-then-becomes_text : goal.returns-then-becomes_text
returns-then-becomes_text c =
    settled_open c.args.tree.now c.set_item.new.self c.args.ix c.item-item.result.now (c.item-item.ensures no_item)
    (sym c.becomes_text.ensures ∙ c.if-becomes_text.true) c.set_item.ensures

pub returns-else-becomes_text : goal.returns-else-becomes_text
returns-else-becomes_text c = settled_closed c.args.tree.now c.args.ix
    (rw (c.item-item.ensures no_item) at (sym c.becomes_text.ensures ∙ c.if-becomes_text.false))
