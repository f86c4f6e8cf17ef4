-- The label is that of the block's text.
use Rattle.std.proofs.Common.{◌≡◌, ◌∙◌, arith}
use Rattle.std.specs.Prelude.{IfOk}
use Rattle.std.specs.Option.{option_map}
use Rattle.markdown_base.specs.BlockTree.{no_item}
use Rattle.markdown_brackets.specs.Reference.{own_label}
use Rattle.markdown_brackets.specs.ReferenceView.{label_view}
use Rattle.markdown_brackets.proofs.WrittenLemmas.{boundary_before, whole_range}
use Rattle.markdown_brackets.proofs.bracket_reader.BracketReader.read_label.Goals as goal

pub scan_own_label-requires-clause-start : goal.scan_own_label-requires-clause-start
scan_own_label-requires-clause-start g c =
    let place = c.args.self.now.place.now in
    let text = c.range-text.ensures.value ∙ whole_range place.text.now place.block_end in
    rw text
    (boundary_before place.text.now place.block_end c.args.start c.requires.ready.opens
    (omega (arith, c.requires.ready.order, c.requires.inside)))

pub scan_own_label-requires-clause-end : goal.scan_own_label-requires-clause-end
scan_own_label-requires-clause-end g c =
    let place = c.args.self.now.place.now in
    let text = c.range-text.ensures.value ∙ whole_range place.text.now place.block_end in
    rw (text, c.item.ensures no_item)
    (boundary_before place.text.now place.block_end _ c.requires.ready.closes c.requires.inside)

pub returns : goal.returns
returns g c =
    let place = c.args.self.now.place.now in
    let rules = c.rules.result in
    let text = c.range-text.ensures.value ∙ whole_range place.text.now place.block_end in
    let read : IfOk c.scan_own_label.result (λ found. option_map label_view found ≡ own_label rules.style
    (g.R.LineRule.skipped rules.rule.now) rules.in_table c.range-text.result.now c.args.start c.item.result.now.end)
    = c.scan_own_label.ensures.value in
    rw (c.rules.ensures.style, c.rules.ensures.in_table, c.rules.ensures.rule, text)
    at (rw (c.item.ensures no_item) at read)
