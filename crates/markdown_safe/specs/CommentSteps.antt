-- What reading a piece of raw HTML from one comment to the next leaves, for private clauses.
use Rattle.std.specs.Prelude.{◌≡◌, ◌++◌, ℕ, Bool, true, false, List, [], Option, MatchOption}
use Rattle.std.specs.Borrow.{Bor}
use Rattle.markdown_safe.specs.Comments.{ends_in_comment, without_comments}

-- The beginning of a piece was read: what it has in no comment was kept, and the rest is left. Either begins in a
-- comment or not.
pub record IsReadTo (within : Bool) (html kept : List ℕ) (after : Bool) (rest : List ℕ) : Type 0 where
  pub text : without_comments within html ≡ kept ++ without_comments after rest
  pub place : ends_in_comment within html ≡ ends_in_comment after rest

-- It was read to the text that comes next, after a comment or at the beginning; or to its end, where a comment goes on.
abbrev pub IsReadToText : (within : Bool) (html kept : List ℕ) → (next : Option (Bor (List ℕ))) → Type 0
IsReadToText within html kept next =
    MatchOption next (IsReadTo within html kept true []) (λ rest. IsReadTo within html kept false rest.now)
