-- By the answers that agree.
use Rattle.markdown_text_records.proofs.AnswersInOrderLemmas.{answers_in_order}
use Rattle.markdown_text_records.proofs.laws.answers_are_used_in_order.Goals as goal

pub returns : goal.returns
returns c = answers_in_order
