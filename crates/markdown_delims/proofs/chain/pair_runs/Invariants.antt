-- The pairing of the rest is that of the whole, for any chain from `first` on.
use Rattle.std.proofs.Common.{◌≡◌, ℕ, length}
use Rattle.markdown_base.specs.Forest.{Forest}
use Rattle.markdown_document.specs.Setting.{Setting}
use Rattle.markdown_document.specs.Tables.{Tables}
use Rattle.markdown_delims.specs.ChainReading.{IsChainAt}
use Rattle.markdown_delims.specs.Layers.{extensions_of}
use Rattle.markdown_delims.proofs.ChainLemmas.{RunsRead, numbers_left}
use Rattle.markdown_delims.proofs.chain.pair_runs.Given as goal

abbrev pub invariant-trees : goal.invariant-trees
invariant-trees l =
    (s : Setting) (tables : Tables) (f : Forest ℕ) → extensions_of s.rules.syntax ≡ l.source.extensions → s.text
    ≡ l.source.text.now
    → (c : IsChainAt s tables l.fn.tree.nodes l.first l.count f)
    → RunsRead s tables l.fn.tree l.first l.count f c l.tree l.fn.openers l.openers l.last l.cur

abbrev pub decreases-trees : goal.decreases-trees
decreases-trees l = numbers_left (length l.tree.nodes) l.cur
