-- The letters so far have been read.
use Rattle.std.proofs.Common.{◌≡◌, ◌++◌, drop}
use Rattle.std.specs.Option.{option_map}
use Rattle.markdown_records.specs.Decoded.{each_of}
use Rattle.markdown_records.specs.NumbersRead.{alignment_of}
use Rattle.markdown_records.proofs.read_tags.alignments_of.Given as goal

abbrev pub invariant-letters : goal.invariant-letters
invariant-letters l =
    each_of alignment_of l.letters
    ≡ option_map (λ later. l.alignments.items ++ later) (each_of alignment_of (drop l.letter-index l.letters))
