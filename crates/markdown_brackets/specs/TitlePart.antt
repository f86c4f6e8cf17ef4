-- The title of an inline link with the separator after it, or neither.
use Rattle.std.specs.Prelude.{◌≡◌, ℕ, Bool, false, List, [], Option, Some, None}
use Rattle.markdown_base.specs.CowText.{text_of}
use Rattle.markdown_base.specs.declared.cow_str.CowStr.{CowStr}
use Rattle.markdown_scan.specs.Unescape.{unescaped}
use Rattle.markdown_scan.specs.declared.entity.EntityNames.{EntityNames}
use Rattle.markdown_brackets.specs.LinkTail.{past_separator}
use Rattle.markdown_document.specs.LinkTitle.{Title, title_origin}
use Rattle.markdown_document.specs.Origins.{origin_of}

-- the byte offset after both, and the title with its origin, if these are its offset and its text as written
pub record IsTitleText (names : EntityNames) (in_table : Bool) (close end : ℕ) (text : List ℕ) (is_joined : Bool)
    (found : CowStr) : Type 0 where
  pub ends : end ≡ close
  pub text_is : text_of found ≡ unescaped names in_table text
  pub origin : origin_of found ≡ title_origin names in_table text is_joined

-- what is returned is the title with the separator after it or, if there is none, an empty title at the same byte
-- offset
abbrev pub IsTitlePart : (List ℕ → Option ℕ) → EntityNames → Bool → List ℕ → ℕ → Option Title → ℕ → CowStr → Type 0
IsTitlePart skipped names in_table text at None end found = IsTitleText names in_table at end [] false found
IsTitlePart skipped names in_table text at (Some t) end found =
    IsTitleText names in_table (past_separator skipped text t.ends) end t.text t.is_joined found
