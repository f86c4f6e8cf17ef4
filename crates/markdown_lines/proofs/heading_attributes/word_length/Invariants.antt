-- The bytes so far part no words.
use Rattle.std.proofs.Common.{◌≡◌, ◌+◌, drop}
use Rattle.std.specs.List.{position_or_len}
use Rattle.markdown_lines.specs.HeadingAttributes.{parts_words}
use Rattle.markdown_lines.proofs.heading_attributes.word_length.Given as goal

abbrev pub invariant-loop-at : goal.invariant-loop-at
invariant-loop-at l = position_or_len parts_words l.bytes ≡ l.at + position_or_len parts_words (drop l.at l.bytes)
