-- Each character is written over.
use Rattle.std.proofs.Common.{◌≡◌, ◌+◌, suc, arith}
use Rattle.markdown_delims.proofs.LiteralRunLemmas.{settling_within, settling_begin, settling_more, settling_done}
use Rattle.markdown_delims.proofs.read.make_run_literal.Goals as goal

pub make_literal-init : goal.make_literal-init
make_literal-init c h rs last chain st b = settling_begin h c.args.tree.now rs c.args.met.number c.args.met.count last
    chain
    st b

pub make_literal-preserved : goal.make_literal-preserved
make_literal-preserved c h rs last chain st b =
    rw (← (let e : suc c.make_literal.i ≡ c.make_literal.i + 1 = omega arith in e))
    (settling_more _ _ _ _ _ _ _ _ _ c.make_literal-test.true
    (c.make_literal.invariant h rs last chain st b) c.put_body.ensures)

pub returns : goal.returns
returns c h rs last chain st b =
    settling_done h c.args.tree.now c.make_literal.tree rs c.args.met c.make_literal.i last chain c.requires.stands.some
    (omega arith) st b
    (c.make_literal.invariant h rs last chain st b)

pub put_body-requires : goal.put_body-requires
put_body-requires c =
    let p = c.requires.stands in
    settling_within _ _ _ _ _ _ _ _ c.make_literal-test.true
    (c.make_literal.invariant p.chain p.rs p.last p.rest p.stands p.begins)

pub overflow_add-met : goal.overflow_add-met
overflow_add-met c =
    let p = c.requires.stands in
    let a = c.make_literal.invariant p.chain p.rs p.last p.rest p.stands p.begins in
    let w = settling_within _ _ _ _ _ _ _ _ c.make_literal-test.true a in
    omega (arith, w, a.kept.size, p.stands.few)
