use Rattle.markdown_out.proofs.html.Writer.block_quote.Goals as goal

pub returns-clause-ok : goal.returns-clause-ok
returns-clause-ok c = rw (← c.line_break-first.ensures, ← c.class_of-class.ensures) c.put.ensures.ok
