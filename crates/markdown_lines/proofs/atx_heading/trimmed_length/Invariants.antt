-- What was passed over going back passes the test.
use Rattle.std.proofs.Common.{◌≡◌, ◌≤◌, ◌+◌, take, length}
use Rattle.std.specs.List.{suffix_len}
use Rattle.markdown_lines.specs.Lines.{is_space_or_tab}
use Rattle.markdown_lines.proofs.atx_heading.trimmed_length.Given as goal

abbrev pub invariant-trim : goal.invariant-trim
invariant-trim l = record {
  within : l.end ≤ length l.content;
  rest : l.end + suffix_len is_space_or_tab l.content ≡ length l.content + suffix_len is_space_or_tab
      (take l.end l.content);
}

abbrev pub decreases-trim : goal.decreases-trim
decreases-trim l = l.end
