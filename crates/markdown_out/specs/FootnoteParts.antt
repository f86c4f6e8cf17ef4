-- The number of a footnote among the bytes of its event: what precedes it, and what the writer keeps after it. Only
-- private clauses cite this.
use Rattle.std.specs.Prelude.{ℕ, Bool, List, [], ◌∷◌, codes}
use Rattle.markdown_out.specs.ByteLists.{joined, fresh_after_bytes}
use Rattle.markdown_out.specs.Escapes.{attribute_escaped}
use Rattle.markdown_out.specs.LookBacks.{Past, footnote_number, with_name}
use Rattle.markdown_out.specs.TagHtml.{new_line}

-- what is written before the number of a footnote reference
abbrev pub to_reference_number : List ℕ → List (List ℕ)
to_reference_number name = codes "<sup class=\"footnote-reference\"><a href=\"#" ∷ attribute_escaped name ∷ codes "\">"
    ∷ []

-- what is written before the number of a footnote definition
abbrev pub to_definition_number : Bool → List ℕ → List (List ℕ)
to_definition_number fresh name =
    new_line fresh ∷ codes "<div class=\"footnote-definition\" id=\"" ∷ attribute_escaped name
    ∷ codes "\"><sup class=\"footnote-definition-label\">" ∷ []

-- what the writer keeps after the number of a name and the text that follows the number
abbrev pub after_number : Past → List ℕ → List ℕ → Past
after_number past name after = record past {
  fresh = fresh_after_bytes past.fresh (joined (footnote_number past name ∷ after ∷ []));
  names = with_name name past.names;
}
