use Rattle.markdown_block_laws.proofs.TaskLawsLemmas.{markers_first}
use Rattle.markdown_block_laws.proofs.laws.task_markers_come_first.Goals as goal

pub returns : goal.returns
returns c = markers_first
