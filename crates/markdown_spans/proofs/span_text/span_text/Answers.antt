-- The bytes between the delimiters, with or without a space at each end, are a slice of the source.
use Rattle.markdown_spans.proofs.SliceLemmas.{slice_whole}
use Rattle.markdown_spans.proofs.span_text.span_text.Goals as goal
use Rattle.markdown_spans.proofs.span_text.span_text.Goals.{in-Code, in-Math}

pub returns-then-is_none-clause-slice : goal.returns-then-is_none-clause-slice
returns-then-is_none-clause-slice c = λ borrowed. elim c.match-kind.branch [
  | in-Code w ↦ rw w.result-is w.slice_outer_spaces.ensures.part
  | in-Math w ↦ rw w.result-is (slice_whole c.args.text.now)
]
