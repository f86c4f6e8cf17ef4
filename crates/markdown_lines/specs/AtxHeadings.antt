-- ATX headings (CommonMark 4.2), by the bytes of a line.
use Rattle.std.specs.Prelude.{ℕ, ◌+◌, Bool, ◌==◌, ◌||◌, nat_lt, List, Option, Some, None, length, drop, slice_range}
use Rattle.std.specs.Prelude.{if◌then◌else◌}
use Rattle.std.specs.List.{prefix_len}
use Rattle.markdown_base.specs.Bytes.{number_sign}
use Rattle.markdown_base.specs.declared.tag.HeadingLevel.{HeadingLevel}
use Rattle.markdown_base.specs.HeadingLevels.{level_of}
use Rattle.markdown_lines.specs.declared.atx_heading.AtxHeading.{AtxHeading}
use Rattle.markdown_lines.specs.Lines.{is_space_or_tab}
use Rattle.markdown_lines.specs.LineBytes.{without_end, is_parted}

-- a `#`
abbrev pub is_hash : ℕ → Bool
is_hash byte = byte == number_sign

-- The content of a heading, from what follows the opening `#` and white space: without white space at the end, and
-- without a closing sequence, which is a run of `#` after white space or at the beginning.
abbrev pub heading_content : List ℕ → List ℕ
heading_content bytes =
    let trimmed = without_end is_space_or_tab bytes in
    let unclosed = without_end is_hash trimmed in
    let before = without_end is_space_or_tab unclosed in
    if nat_lt (length before) (length unclosed) || (length unclosed == 0) then before else trimmed

-- the heading of a level, where there is a level, whose content begins at byte offset `from`; without attributes
abbrev pub heading_from : Option HeadingLevel → ℕ → List ℕ → Option AtxHeading
heading_from None from content = None
heading_from (Some l) from content = Some (record {
  level = l;
  from = from;
  to = from + length content;
  braces = None;
})

-- the heading that begins at byte offset `at` in a line whose content ends before `stop`: one to six `#`, and white
-- space or nothing after them
abbrev pub atx_heading_at : List ℕ → ℕ → ℕ → Option AtxHeading
atx_heading_at text at stop =
    let line = slice_range text at stop in
    let count = prefix_len is_hash line in
    let rest = drop count line in
    let white = prefix_len is_space_or_tab rest in
    if is_parted rest then heading_from (level_of count) (at + count + white) (heading_content (drop white rest))
    else None
