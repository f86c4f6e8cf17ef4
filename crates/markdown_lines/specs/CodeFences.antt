-- Code fences (CommonMark 4.5), by the bytes of a line.
use Rattle.std.specs.Prelude.{ℕ, ◌+◌, Bool, not, ◌==◌, ◌&&◌, ◌||◌, nat_le, List, Option, Some, None, length, drop}
use Rattle.std.specs.Prelude.{slice_range, if◌then◌else◌}
use Rattle.std.specs.List.{list_all, list_any, prefix_len}
use Rattle.markdown_base.specs.Bytes.{backtick}
use Rattle.markdown_lines.specs.declared.fence.Fence.{Fence}
use Rattle.markdown_lines.specs.declared.fence.OpeningFence.{OpeningFence}
use Rattle.markdown_lines.specs.Lines.{is_space_or_tab}
use Rattle.markdown_lines.specs.LineBytes.{without_end}

-- the length of the run of a byte that bytes begin with
abbrev pub run_length : ℕ → List ℕ → ℕ
run_length byte bytes = prefix_len (λ b. b == byte) bytes

-- a byte is a backtick
abbrev pub is_backtick : ℕ → Bool
is_backtick byte = byte == backtick

-- `count` of a character are an opening fence before the rest of a line: three or more, and no backtick after backticks
abbrev pub opens_fence : ℕ → ℕ → List ℕ → Bool
opens_fence byte count rest = nat_le 3 count && (not (is_backtick byte) || not (list_any is_backtick rest))

-- the opening fence of a character at byte offset `at` in a line whose content ends before `stop`, after `indent`
-- columns. What follows, without white space around it, is the info string.
abbrev pub opening_fence_at : List ℕ → ℕ → ℕ → ℕ → ℕ → Option OpeningFence
opening_fence_at text at stop byte indent =
    let line = slice_range text at stop in
    let count = run_length byte line in
    let rest = drop count line in
    let white = prefix_len is_space_or_tab rest in
    if opens_fence byte count rest then Some (record {
      fence = record { byte = byte; length = count; indent = indent };
      from = at + count + white;
      to = at + count + white + length (without_end is_space_or_tab (drop white rest));
    }) else None

-- a fence that closes a code block is at byte offset `at` in a line: at least as long as the opening one, and with only
-- white space after it
abbrev pub closes_fence : List ℕ → ℕ → ℕ → Fence → Bool
closes_fence text at stop opening =
    let line = slice_range text at stop in
    let count = run_length opening.byte line in
    nat_le opening.length count && list_all is_space_or_tab (drop count line)
