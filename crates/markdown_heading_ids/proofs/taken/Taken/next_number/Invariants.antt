use Rattle.std.proofs.Common.{◌≡◌, ◌<◌, ◌≤◌, ℕ, true, is_some}
use Rattle.std.specs.BTreeMap.{get_by_text}
use Rattle.markdown_heading_ids.specs.HeadingIds.{anchor_id}
use Rattle.markdown_heading_ids.proofs.taken.Taken.next_number.Given as goal

-- the ids with the numbers after the last one so far are all taken
abbrev pub invariant-loop-number : goal.invariant-loop-number
invariant-loop-number l = record {
  from : l.last ≤ l.number;
  passed : (n : ℕ) → l.last < n → n ≤ l.number
      → is_some (get_by_text l.self.numbers (anchor_id l.anchor n)) ≡ true;
}
