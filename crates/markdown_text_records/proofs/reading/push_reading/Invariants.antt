-- The elements so far are written, and the steps to come grow fewer.
use Rattle.markdown_inline.specs.ParserLeft.{offset_parser, parser_steps}
use Rattle.markdown_text_records.specs.Recording.{RecordsOn}
use Rattle.markdown_text_records.proofs.reading.push_reading.Given as goal

abbrev pub invariant-walk : goal.invariant-walk
invariant-walk l = RecordsOn l.initial.records (offset_parser l.initial.walk) l.records (offset_parser l.walk)

abbrev pub decreases-walk : goal.decreases-walk
decreases-walk l = parser_steps (offset_parser l.walk)
