-- The bytes so far are spaces.
use Rattle.std.proofs.Common.{◌≡◌, take, true}
use Rattle.std.specs.List.{list_all}
use Rattle.markdown_spans.specs.CodeText.{is_space}
use Rattle.markdown_spans.proofs.span_text.is_all_spaces.Given as goal

abbrev pub invariant-loop-byte : goal.invariant-loop-byte
invariant-loop-byte l = list_all is_space (take l.byte-index l.bytes) ≡ true
