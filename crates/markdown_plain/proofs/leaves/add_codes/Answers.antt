-- Each turn adds the next line.
use Rattle.std.proofs.Common.{◌≡◌, false, length, sym, subst, rules}
use Rattle.std.proofs.Math.Seq.{take-length}
use Rattle.std.proofs.lemmas.List.{take_more}
use Rattle.std.proofs.lemmas.Option.{slice_get-get_or}
use Rattle.markdown_plain.specs.LeafTrees.{AddsLines}
use Rattle.markdown_base.specs.declared.item.ItemBody.TheVariants as body
use Rattle.markdown_plain.proofs.ReadyLinesLemmas.{comes_next, goes_on_fits}
use Rattle.markdown_plain.proofs.LeafTreesLemmas.{adds_more, adds_none}
use Rattle.markdown_plain.proofs.leaves.add_codes.Goals as goal

pub lines-init : goal.lines-init
lines-init c = record { adds = adds_none c.args.placing.now.builder (body.Text false) }

pub lines-preserved : goal.lines-preserved
lines-preserved c = record {
  adds = subst (AddsLines c.args.placing.now.builder c.add_code.new.placing.builder (body.Text false))
      (sym (take_more c.args.lines.now c.lines.line-index _ c.lines-test.true))
      (adds_more c.lines.invariant.adds c.in_ok-add_code.ensures);
}

-- the next line fits
pub add_code-requires : goal.add_code-requires
add_code-requires c =
    let adds = c.lines.invariant.adds in
    let line = slice_get-get_or c.args.lines.now c.lines.line-index _ c.lines-test.true in
    let next = comes_next _ c.args.placing.now.builder.at c.args.lines.now c.lines.line-index _ c.requires.are line in
    goes_on_fits c.args.placing.now.builder c.lines.placing.builder _ _ _ adds.goes_on c.requires.inside next.low
    next.boundary next.next

pub returns : goal.returns
returns c =
    let number : c.lines.line-index ≡ length c.args.lines.now = search rules in
    rw (← take-length c.args.lines.now, ← number) c.lines.invariant.adds
