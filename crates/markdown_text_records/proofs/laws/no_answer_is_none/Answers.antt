-- By the answers that agree.
use Rattle.markdown_text_records.proofs.AnswersInOrderLemmas.{none_at_the_end}
use Rattle.markdown_text_records.proofs.laws.no_answer_is_none.Goals as goal

pub returns : goal.returns
returns c = none_at_the_end
