-- A comment on a page: safe HTML in an element of the page's own.
use Rattle.std.specs.Prelude.{◌≡◌, ℕ, List, ◌++◌, codes}
use Rattle.markdown.specs.SafeWords.{IsSafeHtml}

-- between the tags of a `div` stands safe HTML
pub record IsComment (html : List ℕ) : Type 0 where
  pub inside : List ℕ
  pub is : html ≡ codes "<div class=\"comment\">\n" ++ (inside ++ codes "</div>\n")
  pub safe : IsSafeHtml inside
