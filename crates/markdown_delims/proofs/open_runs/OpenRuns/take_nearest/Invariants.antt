use Rattle.std.proofs.Common.{◌≡◌, ℕ, ◌+◌, ◌<◌, ◌≤◌, length, take, get_or}
use Rattle.std.specs.Prelude.{false}
use Rattle.markdown_delims.specs.MayPair.{may_pair}
use Rattle.markdown_delims.specs.RunSearch.{nearest_run}
use Rattle.markdown_delims.specs.OpenRuns.{open_runs}
use Rattle.markdown_delims.specs.declared.run.Characters.{Characters}
use Rattle.markdown_delims.proofs.open_runs.OpenRuns.take_nearest.Given as goal

-- the runs down to this position were compared and not taken
abbrev pub invariant-loop-i : goal.invariant-loop-i
invariant-loop-i l =
    record {
      same_runs : l.self-inside.stack.items ≡ l.initial.self-inside.stack.items;
      same_bounds : l.self-inside.bounds ≡ l.initial.self-inside.bounds;
      counted : l.self-inside.stack.examined + l.i ≡ l.initial.self-inside.stack.examined + l.len;
      above : l.lowest ≤ l.i;
      within : l.i ≤ l.len;
      failed :
          (k : ℕ) (x : Characters) → l.i ≤ k → k < length l.initial.self-inside.stack.items.items
          → may_pair (get_or l.initial.self-inside.stack.items.items k x).run l.closer ≡ false;
      same_search :
          nearest_run l.closer (open_runs l.initial.self-inside.bounds
          (take l.i l.initial.self-inside.stack.items.items))
          ≡ nearest_run l.closer (open_runs l.initial.self-inside.bounds l.initial.self-inside.stack.items.items);
    }

abbrev pub decreases-loop-i : goal.decreases-loop-i
decreases-loop-i l = l.i
