-- The tail is that of the block's text, by the items ahead, and its title comes from there.
use Rattle.std.proofs.Common.{◌∙◌, arith}
use Rattle.std.proofs.lemmas.List.{length-take}
use Rattle.std.specs.Prelude.{IfOk}
use Rattle.markdown_base.specs.BlockTree.{no_item}
use Rattle.markdown_brackets.specs.ChainAhead.{starts_from}
use Rattle.markdown_brackets.specs.LinkTail.{link_tail}
use Rattle.markdown_brackets.specs.LinkTailView.{ReadsTail}
use Rattle.markdown_brackets.proofs.TailTitleLemmas.{has_title}
use Rattle.markdown_brackets.proofs.WrittenLemmas.{boundary_before, ok_map, whole_range}
use Rattle.markdown_brackets.proofs.bracket_reader.BracketReader.read_tail.Goals as goal

pub scan_link_tail-requires-clause-at : goal.scan_link_tail-requires-clause-at
scan_link_tail-requires-clause-at g c =
    let place = c.args.self.now.place.now in
    let text = c.range-text.ensures.value ∙ whole_range place.text.now place.block_end in
    rw (text, c.item.ensures no_item)
    (boundary_before place.text.now place.block_end _ c.requires.ready.1.closes c.requires.inside)

pub scan_link_tail-requires-clause-items : goal.scan_link_tail-requires-clause-items
scan_link_tail-requires-clause-items g c =
    let place = c.args.self.now.place.now in
    let text = c.range-text.ensures.value ∙ whole_range place.text.now place.block_end in
    λ n s starts within.
    rw text
    (boundary_before place.text.now place.block_end s
    (c.requires.ready.1.later n s (rw c.next.ensures.value at starts))
    (omega (arith, length-take place.block_end place.text.now, rw text at within)))

pub returns-clause-value : goal.returns-clause-value
returns-clause-value g c =
    let at = c.args.self.now in
    let rules = c.rules.result in
    let text = c.range-text.ensures.value ∙ whole_range at.place.now.text.now at.place.now.block_end in
    let read : IfOk c.scan_link_tail.result (ReadsTail rules.names rules.in_table
    (link_tail (g.R.LineRule.skipped rules.rule.now) (starts_from at.tree.now.nodes c.next.result)
    c.range-text.result.now c.item.result.now.end))
    = c.scan_link_tail.ensures.value in
    rw (c.rules.ensures.names, c.rules.ensures.in_table, c.rules.ensures.rule, c.next.ensures.value, text)
    at (rw (c.item.ensures no_item) at read)

pub returns-clause-from : goal.returns-clause-from
returns-clause-from g c =
    let at = c.args.self.now in
    let place = at.place.now in
    let text = c.range-text.ensures.value ∙ whole_range place.text.now place.block_end in
    rw (c.item.ensures no_item) at
    (ok_map c.scan_link_tail.result _ _ c.scan_link_tail.ensures.value
    (λ found reads.
    has_title c.rules.result.names c.rules.result.in_table (g.R.LineRule.skipped c.rules.result.rule.now)
    (starts_from at.tree.now.nodes c.next.result)
    place.text.now c.range-text.result.now place.block_end c.item.result.now.end found text reads))
