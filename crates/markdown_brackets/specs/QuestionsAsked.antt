-- Questions: at most one for each `]`, and no two that end at the same byte offset.
use Rattle.std.specs.Prelude.{◌≡◌, ℕ, ◌≤◌, Bool, List, [], map, length, nat_eq, count_by}
use Rattle.std.specs.List.{IsDistinct}
use Rattle.markdown_base.specs.Questions.{Question}
use Rattle.markdown_document.specs.ChainRest.{open_body}
use Rattle.markdown_document.specs.Document.{TreeNode}
use Rattle.markdown_brackets.specs.Reference.{is_closing_bracket}

-- the node is an open `]`
abbrev pub closes_bracket : {A : Type 0} → TreeNode A → Bool
closes_bracket a = is_closing_bracket (open_body a.part.shape)

-- the number of open `]` among these nodes
abbrev pub closers_among : {A : Type 0} → List (TreeNode A) → ℕ
closers_among items = count_by closes_bracket items

-- at most `closers` questions are asked, and none at a limit of 0
pub record AsksAtMost (closers limit : ℕ) (questions : List Question) : Type 0 where
  pub once : length questions ≤ closers
  pub silent : limit ≡ 0 → questions ≡ []

-- no two questions end at the same byte offset
abbrev pub EndApart : List Question → Type 0
EndApart questions = IsDistinct nat_eq (map (λ q. q.span.end) questions)
