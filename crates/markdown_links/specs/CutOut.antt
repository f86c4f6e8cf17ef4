-- The entries of links that are kept, whose texts are parts of one text, out of which they can be cut.
use Rattle.std.specs.Prelude.{◌≤◌, ℕ, List, drop, slice_range, Option, Some, None, IfSome, IsCharBoundary, All}
use Rattle.std.specs.String.{string_bytes}
use Rattle.markdown_links.specs.LinkEntries.{LinkBegun, LinkEntryView, link_entry}
use Rattle.markdown_links.specs.declared.found.Found.{Found}

-- what began with the Start of one that is kept
abbrev pub found_begun : Found → LinkBegun
found_begun f = record {
  is_image = f.is_image;
  leads = record {
    kind = f.link_type;
    destination = string_bytes f.dest_url;
    title = string_bytes f.title;
    label = string_bytes f.id;
  };
}

-- the bytes of a shared text from one place up to another, or up to its end
abbrev pub part_of_text : List ℕ → (start : ℕ) → (end : Option ℕ) → List ℕ
part_of_text texts start None = drop start texts
part_of_text texts start (Some end) = slice_range texts start end

-- the entry of one that is kept, whose text is a part of the shared text
abbrev pub found_entry : (texts : List ℕ) → Found → LinkEntryView
found_entry texts f = link_entry (found_begun f) (part_of_text texts f.text_start f.text_end) f.range

-- the part of one that is kept can be cut out of the shared text
pub record IsCutOut (texts : List ℕ) (f : Found) : Type 0 where
  pub start : IsCharBoundary texts f.text_start
  pub end : IfSome f.text_end (λ end. (f.text_start ≤ end) × IsCharBoundary texts end)

-- and so those of all
abbrev pub AreCutOut : List ℕ → List Found → Type 0
AreCutOut texts found = All (IsCutOut texts) found
