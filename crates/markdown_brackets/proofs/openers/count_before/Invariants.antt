-- The openers past this place go.
use Rattle.std.proofs.Common.{◌≡◌, ◌≤◌, ℕ, length, take}
use Rattle.markdown_brackets.specs.Openers.{before}
use Rattle.markdown_brackets.specs.OpenerStack.{waiting_openers}
use Rattle.markdown_brackets.proofs.openers.count_before.Given as goal

abbrev pub invariant-openers : goal.invariant-openers
invariant-openers l = record {
  within : l.left ≤ length l.openers;
  same : (n : ℕ) → before l.node (waiting_openers n l.openers)
      ≡ before l.node (waiting_openers n (take l.left l.openers));
}

abbrev pub decreases-openers : goal.decreases-openers
decreases-openers l = l.left
