-- The pipe of the text counts, if it is before the block's end.
use Rattle.markdown_brackets.proofs.WikilinkPipeLemmas.{no_pipe_in_block, pipe_before_end, pipe_past_block}
use Rattle.markdown_brackets.proofs.wikilink.scan_pipe.Goals as goal

pub returns-in_err-after : goal.returns-in_err-after
returns-in_err-after c =
    rw (c.from_residual.ensures) (no_pipe_in_block c.args.text.now c.args.block_end c.args.start c.args.length
    c.in_err-after.ensures.value)

pub returns-then-after-block_end : goal.returns-then-after-block_end
returns-then-after-block_end c =
    pipe_past_block c.args.text.now c.args.block_end c.args.start c.args.length
    (c.in_ok-after.after, c.in_ok-after.name.now)
    c.in_ok-after.ensures.value c.if-after-block_end.true

pub returns : goal.returns
returns c =
    pipe_before_end c.args.text.now c.args.block_end c.args.start c.args.length
    (c.in_ok-after.after, c.in_ok-after.name.now)
    c.in_ok-after.ensures.value c.if-after-block_end.false
