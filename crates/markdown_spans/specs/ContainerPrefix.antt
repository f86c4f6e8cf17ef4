-- The container prefix of a line (CommonMark 5): the parts of the line that belong to the blocks above a chain, read
-- from the outermost block in. A block whose part is missing reads nothing, and the prefix ends before it.
use Rattle.std.specs.Prelude.{ℕ, Bool, true, false, List, [], ◌∷◌, Some, None}
use Rattle.markdown_base.specs.declared.item.ItemBody.{ItemBody}
use Rattle.markdown_base.specs.declared.item.ItemBody.TheVariants as body
use Rattle.markdown_scan.specs.ContainerParts.{past_part}
use Rattle.markdown_scan.specs.LineStart.{LineLeft}

-- a block has a part in the beginning of a line
abbrev pub has_prefix : (gfm_footnotes : Bool) → ItemBody → Bool
has_prefix gfm (body.BlockQuote kind) = true
has_prefix gfm (body.ListItem indent) = true
has_prefix gfm (body.DefinitionListDefinition indent) = true
has_prefix true (body.FootnoteDefinition name) = true
has_prefix gfm other = false

-- the rest of a line after the parts of these blocks, the outermost first
abbrev pub past_blocks : Bool → List ItemBody → LineLeft → LineLeft
past_blocks gfm [] line = line
past_blocks gfm (block ∷ inner) line =
    elim (past_part gfm block line) [ Some after ↦ past_blocks gfm inner after | None ↦ line ]

-- the length in bytes of the prefix after a line ending, by the blocks above, the outermost first
abbrev pub prefix_length : Bool → List ItemBody → List ℕ → ℕ
prefix_length gfm blocks bytes = (past_blocks gfm blocks
    (record { scanned = 0; owed = 0; column = 0; bytes = bytes })).scanned
