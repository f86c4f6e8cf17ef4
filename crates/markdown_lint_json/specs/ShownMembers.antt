-- The members of what a line shows, from their texts. Only private clauses cite this.
use Rattle.std.specs.Prelude.{ℕ, List, [], ◌∷◌, codes}
use Rattle.std.specs.Option.{option_copied}
use Rattle.markdown_json.specs.Json.{string}
use Rattle.markdown_lint_json.specs.declared.broken.ShownBroken.{ShownBroken}
use Rattle.markdown_lint_json.specs.declared.links.ShownLink.{ShownLink}
use Rattle.markdown_lint_json.specs.declared.outline.ShownEntry.{ShownEntry}
use Rattle.markdown_lint_json.specs.declared.place.Digits.{Digits}
use Rattle.markdown_out.specs.ByteLists.{joined}
use Rattle.markdown_text_json.specs.OutlineJson.{id_member}

-- those of a link or an image
abbrev pub shown_link_members : ShownLink → List ℕ
shown_link_members l = joined (codes "{\"kind\":" ∷ l.kind.now
    ∷ codes ",\"link_type\":" ∷ l.link_type.now
    ∷ codes ",\"dest_url\":" ∷ string l.dest_url.now
    ∷ codes ",\"title\":" ∷ string l.title.now
    ∷ codes ",\"id\":" ∷ string l.id.now
    ∷ codes ",\"text\":" ∷ string l.text.now
    ∷ codes ",\"range\":{\"start\":" ∷ l.start.now
    ∷ codes ",\"end\":" ∷ l.end.now ∷ codes "}" ∷ [])

-- those of a reference whose label no definition has
abbrev pub shown_broken_members : ShownBroken → List ℕ
shown_broken_members b = joined (codes "{\"link_type\":" ∷ b.link_type.now
    ∷ codes ",\"image\":" ∷ b.image.now
    ∷ codes ",\"reference\":" ∷ string b.reference.now
    ∷ codes ",\"range\":{\"start\":" ∷ b.start.now
    ∷ codes ",\"end\":" ∷ b.end.now ∷ codes "}" ∷ [])

-- those of an entry of an outline
abbrev pub shown_entry_members : ShownEntry → List ℕ
shown_entry_members e = joined (codes "{\"level\":" ∷ e.level.now
    ∷ codes ",\"text\":" ∷ string e.text.now
    ∷ codes ",\"range\":{\"start\":" ∷ e.start.now
    ∷ codes ",\"end\":" ∷ e.end.now ∷ codes "}" ∷ id_member (option_copied e.id) ∷ [])

-- those of a place, between other bytes
abbrev pub digits_between : (before : List ℕ) → Digits → (after : List ℕ) → List ℕ
digits_between before d after = joined (before ∷ codes "\"line\":" ∷ d.line.now
    ∷ codes ",\"column\":" ∷ d.column.now
    ∷ codes ",\"end_line\":" ∷ d.end_line.now
    ∷ codes ",\"end_column\":" ∷ d.end_column.now ∷ after ∷ [])
