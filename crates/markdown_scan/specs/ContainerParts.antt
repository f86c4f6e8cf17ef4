-- What a container takes of a line (CommonMark 5.1, 5.2, and footnote definitions): its part of the line's beginning.
-- Where that is missing, the container does not go on in the line, unless lazily.
use Rattle.std.specs.Prelude.{ℕ, Bool, true, false, not, ◌==◌, ◌&&◌, ◌||◌, nat_lt, Option, Some, None, codes}
use Rattle.std.specs.Prelude.{if◌then◌else◌}
use Rattle.markdown_base.specs.declared.item.ItemBody.{ItemBody}
use Rattle.markdown_base.specs.declared.item.ItemBody.TheVariants as body
use Rattle.markdown_scan.specs.Beginnings.{begins_with}
use Rattle.markdown_scan.specs.LineStart.{LineLeft, is_line_over, leading_space, past_marker}

-- the rest of a line after a block quote's part: at most three columns of space, a marker, and at most one column of
-- space after it
abbrev pub past_quote : LineLeft → Option LineLeft
past_quote left =
    let space = leading_space 4 left in
    if nat_lt space.columns 4 && begins_with (codes ">") space.after.bytes then Some (past_marker space.after)
    else None

-- the rest of a line after an item's part: n columns of space, or fewer where the line is over after them
abbrev pub past_indent : ℕ → LineLeft → Option LineLeft
past_indent n left =
    let space = leading_space n left in
    if (space.columns == n) || is_line_over space.after.bytes then Some space.after else None

-- the rest of a line after a footnote definition's part: in GitHub's style four columns of space, in the old one
-- nothing
abbrev pub past_footnote : (gfm : Bool) → LineLeft → Option LineLeft
past_footnote gfm left = if gfm then past_indent 4 left else Some left

-- the rest of a line after a block's part; a block that is none of these has none
abbrev pub past_part : (gfm_footnotes : Bool) → ItemBody → LineLeft → Option LineLeft
past_part gfm (body.BlockQuote kind) left = past_quote left
past_part gfm (body.ListItem indent) left = past_indent indent left
past_part gfm (body.DefinitionListDefinition indent) left = past_indent indent left
past_part gfm (body.FootnoteDefinition name) left = past_footnote gfm left
past_part gfm other left = Some left
