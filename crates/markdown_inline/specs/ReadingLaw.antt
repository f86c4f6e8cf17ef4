-- The law that lets a walk resolve a chain when it reaches it, and pair the chains of children later.
use Rattle.std.specs.Prelude.{◌≡◌}
use Rattle.markdown_base.specs.Forest.{Forest}
use Rattle.markdown_document.specs.EnclosingBlocks.{EnclosingBlocks}
use Rattle.markdown_document.specs.Document.{Plain, no_notes}
use Rattle.markdown_document.specs.Setting.{Setting, ReferenceState}
use Rattle.markdown_inline.specs.Elements.{Reading}
use Rattle.markdown_inline.specs.Reading.{closed_reading, reading}
use Rattle.markdown_resolver.specs.Kept.{IsQuietBelow}
use Rattle.markdown_resolver.specs.Resolved.{resolved, all_paired}

-- what a chain is resolved to has the same elements whether its chains of children are paired when they are reached,
-- where they are counted, or all at once
abbrev pub ReadingLaw : Type 0
ReadingLaw = (s : Setting) (above : EnclosingBlocks) (chain : Forest Plain) (state later : ReferenceState)
    (after : Reading) → IsQuietBelow chain
    → (reading s no_notes above (resolved s no_notes above chain state).forest after later).elements
    ≡ (closed_reading (all_paired s (resolved s no_notes above chain state).forest) after later).elements
