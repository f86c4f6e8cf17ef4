-- The form is that of the block's text, by the items ahead.
use Rattle.std.proofs.Common.{◌≡◌, ◌∙◌}
use Rattle.std.specs.Prelude.{IfOk}
use Rattle.markdown_base.specs.BlockTree.{no_item}
use Rattle.markdown_brackets.specs.Reference.{form_at}
use Rattle.markdown_brackets.specs.ReferenceView.{form_view}
use Rattle.markdown_brackets.proofs.WrittenLemmas.{boundary_before, whole_range}
use Rattle.markdown_brackets.proofs.bracket_reader.BracketReader.read_form.Goals as goal

pub scan_form-requires : goal.scan_form-requires
scan_form-requires g c =
    let place = c.args.self.now.place.now in
    let text = c.range-text.ensures.value ∙ whole_range place.text.now place.block_end in
    record {
      at = rw (text, c.item.ensures no_item)
          (boundary_before place.text.now place.block_end _ c.requires.ready.1.closes c.requires.inside);
    }

pub returns-clause-form : goal.returns-clause-form
returns-clause-form g c =
    let place = c.args.self.now.place.now in
    let rules = c.rules.result in
    let text = c.range-text.ensures.value ∙ whole_range place.text.now place.block_end in
    let read : IfOk c.scan_form.result (λ form. form_view form ≡ form_at rules.style
    (g.R.LineRule.skipped rules.rule.now) rules.in_table c.range-text.result.now c.item.result.now.end
    c.linked_item-first.result c.linked_item-second.result)
    = c.scan_form.ensures in
    rw (
      c.rules.ensures.style,
      c.rules.ensures.in_table,
      c.rules.ensures.rule,
      text,
      c.linked_item-first.ensures,
      c.linked_item-second.ensures,
      c.link_after.ensures.value,
      c.next-next.ensures.value,
    )
    at (rw (c.item.ensures no_item) at read)
