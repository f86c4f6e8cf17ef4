-- Task markers, `[ ]` and `[x]`, by the bytes of the first line of a list item's paragraph.
use Rattle.std.specs.Prelude.{ℕ, ◌+◌, Bool, true, false, ◌==◌, ◌&&◌, ◌||◌, Option, Some, None, List, codes}
use Rattle.std.specs.Prelude.{drop, slice_index, if◌then◌else◌}
use Rattle.std.specs.List.{prefix_len}
use Rattle.markdown_base.specs.Bytes.{close_bracket, form_feed, line_tabulation, open_bracket}
use Rattle.markdown_base.specs.declared.syntax.Syntax.{Syntax}
use Rattle.markdown_lines.specs.Lines.{is_space_or_tab}
use Rattle.markdown_lines.specs.SourceLines.{SourceLine}

-- white space in a task marker, and after it: a space, a tab, a vertical tab or a form feed
abbrev pub is_task_space : ℕ → Bool
is_task_space byte = is_space_or_tab byte || (byte == line_tabulation) || (byte == form_feed)

-- an `x` in either case
abbrev pub is_task_check : ℕ → Bool
is_task_check byte = (byte == slice_index (codes "x") 0) || (byte == slice_index (codes "X") 0)

-- whether a task is done, by the byte between the brackets
abbrev pub is_task_done : ℕ → Option Bool
is_task_done byte = if is_task_space byte then Some false else if is_task_check byte then Some true else None

-- the task marker that bytes begin with, by whether the task is done: three bytes, and white space after them
abbrev pub task_marker : List ℕ → Option Bool
task_marker bytes =
    if (slice_index bytes 0 == open_bracket) && (slice_index bytes 2 == close_bracket)
    && is_task_space (slice_index bytes 3)
    then is_task_done (slice_index bytes 1) else None

-- the number of bytes of a task marker and of all white space after it
abbrev pub task_length : List ℕ → ℕ
task_length bytes = 3 + prefix_len is_task_space (drop 3 bytes)

-- what follows a task marker in its line
abbrev pub past_task : SourceLine → SourceLine
past_task l = record l {
  left = record l.left {
    scanned = l.left.scanned + task_length l.left.bytes;
    bytes = drop (task_length l.left.bytes) l.left.bytes;
  };
}

-- the task marker that bytes begin with, where task lists are read
abbrev pub task_read : Syntax → List ℕ → Option Bool
task_read syntax bytes = if syntax.tasks then task_marker bytes else None
