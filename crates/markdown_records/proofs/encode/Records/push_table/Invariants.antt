-- The letters of the first columns.
use Rattle.std.proofs.Common.{◌≡◌, map, take}
use Rattle.std.specs.String.{string_bytes}
use Rattle.markdown_records.specs.Numbers.{alignment_letter}
use Rattle.markdown_records.proofs.encode.Records.push_table.Given as goal

abbrev pub invariant-loop-alignment : goal.invariant-loop-alignment
invariant-loop-alignment l = string_bytes l.letters ≡ map alignment_letter (take l.alignment-index l.alignments)
