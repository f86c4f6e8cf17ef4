-- What is no row may be closed.
use Rattle.markdown_builder.proofs.RowInsideLemmas.{no_row_inside}
use Rattle.markdown_plain.proofs.placing.Placing.close.Goals as goal

pub close_innermost-requires-clause-even : goal.close_innermost-requires-clause-even
close_innermost-requires-clause-even c = no_row_inside c.args.self.now.builder c.requires.other
