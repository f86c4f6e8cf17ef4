-- The outline is that of a new parser of the text.
use Rattle.std.proofs.Common.{⊎_elim}
use Rattle.std.proofs.lemmas.Result.{IfOk-weaker, IfErr-weaker}
use Rattle.markdown_outline.proofs.ParserOutlineLemmas.{entries_of_text, fault_of_memory}
use Rattle.markdown_outline.proofs.of_text.outline_source.Goals as goal

pub returns-clause-entries : goal.returns-clause-entries
returns-clause-entries c =
    IfOk-weaker c.outline.result _ _
    (λ entries h. entries_of_text _ _ c.into_offset_iter.result _
    (rw c.into_offset_iter.ensures c.in_ok-parser.ensures.left)
    (rw c.into_offset_iter.ensures c.in_ok-parser.ensures.callback) h) c.outline.ensures.entries

pub returns-clause-refused : goal.returns-clause-refused
returns-clause-refused c =
    IfErr-weaker c.outline.result _ _
    (λ fault h. ⊎_elim (λ m. fault_of_memory _ c.into_offset_iter.result fault m) (λ n. n.0) h) c.outline.ensures.fault
