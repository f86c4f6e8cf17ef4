-- What a `<` in safe HTML begins.
use Rattle.std.specs.Prelude.{◌≡◌, ℕ, true, List, ◌∷◌, ◌++◌}
use Rattle.markdown_base.specs.Bytes.{less_than}
use Rattle.markdown_safe.specs.SafeHtml.{HtmlPiece, character, start_tag, end_tag, void_tag, bytes_of_piece}
use Rattle.markdown_safe.specs.SafeHtml.{is_safe_piece, IsSafeHtml}

-- a piece is a tag
abbrev pub IsTag : HtmlPiece → Type 0
IsTag (character c) = ⊥
IsTag (start_tag name attributes) = Unit {0}
IsTag (end_tag name) = Unit {0}
IsTag (void_tag name attributes ends) = Unit {0}

-- the bytes before a `<` are safe HTML; and with the bytes after it, it is a safe tag, followed by safe HTML
pub record BeginsTag (before after : List ℕ) : Type 0 where
  pub before_is_safe : IsSafeHtml before
  pub tag : HtmlPiece
  pub is_tag : IsTag tag
  pub is_safe : is_safe_piece tag ≡ true
  pub rest : List ℕ
  pub rest_is_safe : IsSafeHtml rest
  pub is : less_than ∷ after ≡ bytes_of_piece tag ++ rest

-- so is each `<` in safe HTML
abbrev pub EachLessThanBeginsATag : Type 0
EachLessThanBeginsATag = (html before after : List ℕ) → IsSafeHtml html → html ≡ before ++ less_than ∷ after
    → BeginsTag before after
