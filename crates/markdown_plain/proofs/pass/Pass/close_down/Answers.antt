-- A turn closes the innermost block, which is not one of the outermost blocks that stay.
use Rattle.std.proofs.Common.{◌≡◌, ◌+◌, ◌-◌, suc, ap, sym, subst, length, arith, List}
use Rattle.markdown_plain.proofs.Names.{BuilderView, OpenBlock, AreClosable, without_leaf, Pass}
use Rattle.std.proofs.lemmas.List.{length-take}
use Rattle.markdown_plain.proofs.ClosingDownLemmas.{one_closed}
use Rattle.markdown_plain.proofs.OpenTablesLemmas.{not_down}
use Rattle.markdown_plain.proofs.LeafTreesLemmas.{length_of_outer}
use Rattle.markdown_plain.proofs.pass.Pass.close_down.Goals as goal

pub blocks-2-init : goal.blocks-2-init
blocks-2-init c =
    let there = without_leaf c.args.self.now.placing.builder in
    let all = c.in_ok-end_leaf.ensures (length there) (omega arith) in
    record {
      left = search arith;
      closes = c.in_ok-end_leaf.ensures _
          (omega (arith, ap (λ (bs : List OpenBlock). length bs) all.are, length-take (length there) there));
    }

pub blocks-2-preserved : goal.blocks-2-preserved
blocks-2-preserved c =
    let before = c.blocks-2.invariant in let old = c.blocks-2.self.placing.builder.blocks in
    let turn = c.blocks-2-test.true in
    let n = c.args.depth + (length c.end_leaf.new.self.placing.builder.blocks - (c.blocks-2._closed + 1)) in
    let next : c.args.depth + (length c.end_leaf.new.self.placing.builder.blocks - c.blocks-2._closed) ≡ suc n =
    omega (arith, turn, c.depth-closed-end.ensures) in
    let closed = ap (λ (b : BuilderView). length b.blocks) c.close_block.ensures.closes in
    record {
      left = omega (arith, before.left, closed, length_of_outer old, turn, c.depth-closed-end.ensures);
      closes = one_closed c.args.self.now c.blocks-2.self c.close_block.new.self n (rw (← next) before.closes)
          (omega (arith, before.left, turn, c.depth-closed-end.ensures)) c.close_block.ensures;
    }

-- what is open beyond the outermost blocks may be closed
pub close_block-requires-clause-closable : goal.close_block-requires-clause-closable
close_block-requires-clause-closable c =
    let old = c.args.self.now in let before = c.blocks-2.invariant in let turn = c.blocks-2-test.true in
    let open_ = not_down old c.args.depth (λ leaf lines few.
    let kept = before.closes.kept leaf lines (omega (arith, few)) in
    absurd (omega (
      arith,
      few,
      ap (λ (p : Pass). length p.placing.builder.blocks) kept,
      before.left,
      turn,
      c.depth-closed-end.ensures,
    ))) in
    subst (AreClosable c.blocks-2.self.placing.builder) (sym (ap (λ (p : Pass). p.placed) before.closes.same))
    (before.closes.here (c.requires open_))

pub returns : goal.returns
returns c =
    let end : c.args.depth + (length c.end_leaf.new.self.placing.builder.blocks - c.blocks-2._closed) ≡ c.args.depth =
    omega (arith, c.blocks-2-test.false, c.depth-closed-end.ensures) in
    rw end at c.blocks-2.invariant.closes
