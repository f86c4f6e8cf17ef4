-- What was passed over going back may stand between the braces.
use Rattle.std.proofs.Common.{◌≡◌, ◌≤◌, ◌+◌, take, length}
use Rattle.std.specs.List.{suffix_len}
use Rattle.markdown_lines.specs.HeadingAttributes.{is_enclosed}
use Rattle.markdown_lines.proofs.heading_attributes.opened_length.Given as goal

abbrev pub invariant-inside : goal.invariant-inside
invariant-inside l = record {
  within : l.end ≤ length l.bytes;
  rest : l.end + suffix_len is_enclosed l.bytes ≡ length l.bytes + suffix_len is_enclosed (take l.end l.bytes);
}

abbrev pub decreases-inside : goal.decreases-inside
decreases-inside l = l.end
