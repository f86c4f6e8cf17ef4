-- The counts of resolving a chain.
use Rattle.std.specs.Prelude.{◌≡◌, ◌⊎◌, ℕ, length}
use Rattle.markdown_base.specs.Forest.{Forest, roots}
use Rattle.markdown_document.specs.EnclosingBlocks.{EnclosingBlocks}
use Rattle.markdown_document.specs.Counts.{ChainCounts, WorkRises, delimiters_in}
use Rattle.markdown_document.specs.Document.{Notes, TreeNode}
use Rattle.markdown_document.specs.Setting.{Setting, ReferenceState}
use Rattle.markdown_document.specs.declared.work.Work.{Work}
use Rattle.markdown_delims.specs.PairingFinds.{finds_in}
use Rattle.markdown_resolver.specs.PassOne.{pass_one}

-- the numbers of items of a chain from its first open item on, of delimiter characters that pass one leaves in it, and
-- of searches for an opener that find one when it is paired
abbrev pub chain_counts : {A : Type 0} → Setting → Notes A → EnclosingBlocks → Forest (TreeNode A) → ReferenceState
    → ChainCounts
chain_counts s notes above chain state = record {
  items = length (roots chain);
  delimiters = delimiters_in (pass_one s notes above chain state).forest;
  found = finds_in s (pass_one s notes above chain state).forest;
}

-- all of a number, or nothing
abbrev pub IsAllOrNothing : (all part : ℕ) → Type 0
IsAllOrNothing all part = (part ≡ 0) ⊎ (part ≡ all)

-- memory was refused before a chain with these counts was resolved, or on the way: the counts rose as for a part of it,
-- with all its items or none, and all its delimiter characters or none, so that each of the others rose by no more than
-- these allow
pub record RisesInPart (all : ChainCounts) (old new : Work) : Type 0 where
  pub part : ChainCounts
  pub items : IsAllOrNothing all.items part.items
  pub delimiters : IsAllOrNothing all.delimiters part.delimiters
  pub rises : WorkRises part old new
