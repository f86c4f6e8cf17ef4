-- The texts so far are the same, without borrowing from the source.
use Rattle.std.proofs.Common.{◌≡◌, map}
use Rattle.markdown_base.specs.CowText.{text_of}
use Rattle.markdown_base.proofs.copies.static_texts.Given as goal

abbrev pub invariant-loop-text : goal.invariant-loop-text
invariant-loop-text l = map text_of l.made.items ≡ map text_of l.yielded
