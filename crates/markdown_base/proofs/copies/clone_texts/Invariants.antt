-- The texts so far have been copied, and slices as slices.
use Rattle.std.proofs.Common.{◌≡◌, map, take}
use Rattle.markdown_base.specs.CowText.{text_of}
use Rattle.markdown_base.specs.CopiedTexts.{KeepsSlices}
use Rattle.markdown_base.proofs.copies.clone_texts.Given as goal

abbrev pub invariant-loop-text : goal.invariant-loop-text
invariant-loop-text l =
    (map text_of l.copies.items ≡ map text_of (take l.text-index l.texts))
    × KeepsSlices (take l.text-index l.texts) l.copies.items
