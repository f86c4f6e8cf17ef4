use Rattle.markdown_raw_html.specs.RawHtml.{processing_instruction}
use Rattle.markdown_raw_html.proofs.RawHtmlLemmas.{closed_by, processing_instruction-ends}
use Rattle.markdown_raw_html.proofs.raw_html.RawHtmlScanner.scan_processing_instruction.Goals as goal

pub returns-clause-closed : goal.returns-clause-closed
returns-clause-closed c =
    let self = c.args.self.now in
    closed_by processing_instruction self.text.now c.args.start c.end.result
    processing_instruction-ends
    (rw (self.instructions_of, self.instructions_end) at c.end.ensures.value)
