-- Continuing from here gives what the whole run gives, for any chain.
use Rattle.std.proofs.Common.{◌≡◌, ℕ, ◌<◌, ◌≤◌, List}
use Rattle.markdown_base.specs.Forest.{Forest}
use Rattle.markdown_document.specs.Document.{TreeNode}
use Rattle.markdown_delims.specs.ChainStanding.{Chain, StandsAt, AreOpen}
use Rattle.markdown_delims.specs.Layers.{extensions_of}
use Rattle.markdown_delims.specs.Pairing.{Read}
use Rattle.markdown_delims.proofs.ClosingLemmas.{ClosingAt}
use Rattle.markdown_delims.proofs.close.read_run.Given as goal

abbrev pub invariant-turns : goal.invariant-turns
invariant-turns l =
    record {
      goes_on :
          (h : Chain) (rs : List (Read ℕ)) (vs : List (TreeNode ℕ)) (after : Forest (TreeNode ℕ))
          → extensions_of h.setting.rules.syntax ≡ l.extensions
          → StandsAt h l.fn.tree rs l.fn.last l.fn.met vs after → AreOpen l.fn.openers.runs rs
          → ClosingAt h l.fn.met vs rs after l.fn.tree l.tree l.fn.openers l.openers l.closer l.before;
      some : 0 < l.closer.count;
      paid : l.openers.potential ≤ l.fn.openers.potential;
    }

abbrev pub decreases-turns : goal.decreases-turns
decreases-turns l = l.closer.count
