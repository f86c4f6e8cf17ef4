-- What was passed over going back passes the test.
use Rattle.std.proofs.Common.{◌≡◌, ◌≤◌, ◌+◌, take, length}
use Rattle.std.specs.List.{suffix_len}
use Rattle.markdown_lines.specs.AtxHeadings.{is_hash}
use Rattle.markdown_lines.proofs.atx_heading.unclosed_length.Given as goal

abbrev pub invariant-run : goal.invariant-run
invariant-run l = record {
  within : l.end ≤ length l.content;
  rest : l.end + suffix_len is_hash l.content ≡ length l.content + suffix_len is_hash (take l.end l.content);
}

abbrev pub decreases-run : goal.decreases-run
decreases-run l = l.end
