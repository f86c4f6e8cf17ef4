use Rattle.markdown_text_records.proofs.answering.Answering.next_answer.Goals as goal
