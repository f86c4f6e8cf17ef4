-- What resolving a chain counts, and how much the counts of work rise.
use Rattle.std.specs.Prelude.{◌≡◌, ℕ, zero, suc, ◌+◌, ◌-◌, ◌*◌, ◌^◌, ◌≤◌, min}
use Rattle.markdown_document.specs.declared.work.Work.{Work}
use Rattle.markdown_base.specs.declared.item.ItemBody.TheVariants as body
use Rattle.markdown_base.specs.Forest.{Forest, nil, node}
use Rattle.markdown_base.specs.declared.item.ItemBody.{ItemBody}
use Rattle.markdown_document.specs.Document.{Shape, unresolved, TreeNode}

-- the numbers of items of a chain from its first open item on, of delimiter characters that are left in it when pairing
-- begins, and of searches for an opener that find one then
pub record ChainCounts : Type 0 where
  pub items : ℕ
  pub delimiters : ℕ
  pub found : ℕ

-- the counts where no chain was resolved
abbrev pub no_counts : ChainCounts
no_counts = record { items = 0; delimiters = 0; found = 0 }

-- a count raised by n, at most to 2^128 - 1
abbrev pub risen : ℕ → ℕ → ℕ
risen zero count = count
risen (suc n) count = min (count + suc n) (2 ^ 128 - 1)

-- a count rose by at most this much
pub record RisesAtMost (most old new : ℕ) : Type 0 where
  pub more : ℕ
  pub within : more ≤ most
  pub counted : new ≡ risen more old

-- a count rose by at least this much, or to its maximum
abbrev pub RisesAtLeast : (least old new : ℕ) → Type 0
RisesAtLeast least old new = min (old + least) (2 ^ 128 - 1) ≤ new

-- the maximum number of open runs that are compared with closers for each delimiter character
abbrev pub comparisons_per_delimiter : ℕ
comparisons_per_delimiter = 11

-- the counts of work after a chain with these counts was resolved, or none was: each delimiter character costs at most
-- `comparisons_per_delimiter` comparisons of open runs, each search that finds an opener at least one, and the searches
-- for the ends of code, and those for the ends of math, examine at most as many items as there are
pub record WorkRises (n : ChainCounts) (old new : Work) : Type 0 where
  pub items : new.items ≡ risen n.items old.items
  pub delimiters : new.delimiters ≡ risen n.delimiters old.delimiters
  pub examined : RisesAtMost (comparisons_per_delimiter * n.delimiters) old.examined new.examined
  pub found : RisesAtLeast n.found old.examined new.examined
  pub code_visits : RisesAtMost n.items old.code_visits new.code_visits
  pub math_visits : RisesAtMost n.items old.math_visits new.math_visits

-- 1 for a character of a delimiter run, 0 for all other bodies
abbrev pub counts_delimiter : ItemBody → ℕ
counts_delimiter (body.MaybeEmphasis count opens closes) = 1
counts_delimiter other = 0

-- the same for a shape: 0 where it is not open
abbrev pub counts_shape : Shape → ℕ
counts_shape (unresolved b) = counts_delimiter b
counts_shape other = 0

-- the number of delimiter characters of a chain
abbrev pub delimiters_in : {A : Type 0} → Forest (TreeNode A) → ℕ
delimiters_in nil = 0
delimiters_in (node a below after) = counts_shape a.part.shape + delimiters_in after
