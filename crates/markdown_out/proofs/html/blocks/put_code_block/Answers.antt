use Rattle.std.proofs.Common.{◌<◌, length, arith}
use Rattle.std.proofs.lemmas.Bool.Decides.{nat_tests}
use Rattle.markdown_out.proofs.EventHtmlLemmas.{code_block_named}
use Rattle.markdown_out.proofs.html.blocks.put_code_block.Goals as goal

pub returns-clause-ok : goal.returns-clause-ok
returns-clause-ok c =
    let l : 0 < length c.args.name.now = grind (arith, nat_tests, c.if-is_empty.ensures) in
    rw (code_block_named c.args.fresh.now c.args.name.now l, ← c.line_break-first.ensures)
    c.put-2.ensures.ok
