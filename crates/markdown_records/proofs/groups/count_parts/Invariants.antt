-- Each record so far has what a part has.
use Rattle.std.proofs.Common.{◌≡◌, ◌≤◌, ◌+◌, length}
use Rattle.markdown_records.specs.Decoded.{are_parts}
use Rattle.markdown_records.specs.RecordView.{records_in}
use Rattle.markdown_records.proofs.groups.count_parts.Given as goal

abbrev pub invariant-parts : goal.invariant-parts
invariant-parts l = record {
  are : are_parts (records_in l.fn.parts) ≡ are_parts (records_in l.left);
  count : length (records_in l.fn.parts) ≡ l.count + length (records_in l.left);
  room : l.count + length l.left ≤ length l.fn.parts;
}

abbrev pub decreases-parts : goal.decreases-parts
decreases-parts l = length l.left
