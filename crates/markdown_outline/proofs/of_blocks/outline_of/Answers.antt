-- The outline is that of a parser over the block result, of which all of the reading was left.
use Rattle.std.proofs.Common.{◌∙◌, ⊎_elim, ap}
use Rattle.std.proofs.lemmas.Result.{IfOk-weaker, IfErr-weaker}
use Rattle.markdown_inline.specs.ParserLeft.{parser_callback}
use Rattle.markdown_outline.proofs.ParserOutlineLemmas.{entries_of_blocks, entries_of_source, fault_of_memory}
use Rattle.markdown_outline.proofs.of_blocks.outline_of.Goals as goal

pub returns-clause-entries : goal.returns-clause-entries
returns-clause-entries c =
    IfOk-weaker c.outline.result _ _
    (λ entries h apart. entries_of_blocks _ c.args.blocks c.into_offset_iter.result _
    (rw c.into_offset_iter.ensures c.in_ok-parser.ensures.left)
    (rw c.into_offset_iter.ensures c.in_ok-parser.ensures.callback)
    h apart) c.outline.ensures.entries

pub returns-clause-of_text : goal.returns-clause-of_text
returns-clause-of_text c =
    IfOk-weaker c.outline.result _ _
    (λ entries h s of. entries_of_source _ s c.args.blocks c.into_offset_iter.result _ of
    (rw c.into_offset_iter.ensures c.in_ok-parser.ensures.left)
    (rw c.into_offset_iter.ensures c.in_ok-parser.ensures.callback) h) c.outline.ensures.entries

pub returns-clause-refused : goal.returns-clause-refused
returns-clause-refused c =
    IfErr-weaker c.outline.result _ _
    (λ fault h. ⊎_elim (λ m. fault_of_memory _ c.into_offset_iter.result fault m) (λ n. n.0) h) c.outline.ensures.fault
