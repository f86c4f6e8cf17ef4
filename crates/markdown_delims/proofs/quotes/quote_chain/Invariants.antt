-- What the whole chain becomes stays the same, for any chain from `first` on.
use Rattle.std.proofs.Common.{◌≡◌, ℕ, ◌≤◌, ◌^◌, None, length}
use Rattle.markdown_base.specs.Forest.{Forest}
use Rattle.markdown_document.specs.Setting.{Setting}
use Rattle.markdown_document.specs.Tables.{Tables}
use Rattle.markdown_delims.specs.ChainReading.{IsSpelled}
use Rattle.markdown_delims.proofs.ChainLemmas.{numbers_left}
use Rattle.markdown_delims.proofs.QuoteChainLemmas.{QuotesSoFar}
use Rattle.markdown_delims.proofs.quotes.quote_chain.Given as goal

abbrev pub invariant-trees : goal.invariant-trees
invariant-trees l =
    record {
      chain :
          (s : Setting) (tables : Tables) (f : Forest ℕ) (c : IsSpelled l.fn.tree.nodes l.first f)
          → QuotesSoFar s tables l.fn.tree l.first f c l.tree l.opened l.delimiters l.cur;
      few : l.cur ≡ None → length l.tree.nodes ≤ 2 ^ 63;
    }

abbrev pub decreases-trees : goal.decreases-trees
decreases-trees l = numbers_left (length l.tree.nodes) l.cur
