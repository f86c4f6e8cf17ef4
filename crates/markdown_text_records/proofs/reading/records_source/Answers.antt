-- The parser is one of the text.
use Rattle.markdown_base.specs.Source.{source_as}
use Rattle.markdown_text_records.specs.AnsweringView.{table_in}
use Rattle.markdown_text_records.proofs.TextRecordsLemmas.{starts}
use Rattle.markdown_text_records.proofs.reading.records_source.Goals as goal

pub returns : goal.returns
returns c =
    let s = source_as c.args.syntax c.args.text.now in
    let table = table_in c.args.answers in
    c.written.ensures s table (rw c.into_offset_iter-walk.ensures (starts s table c.in_ok-blocks.blocks
    c.in_ok-parser.parser c.by-callback.result c.new.result c.in_ok-blocks.ensures.blocks
    c.in_ok-parser.ensures.left c.in_ok-parser.ensures.definitions c.in_ok-parser.ensures.callback
    c.by-callback.ensures.table c.new.ensures.source c.new.ensures.blank c.new.ensures.entries))
