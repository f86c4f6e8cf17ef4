-- The lines of entries of an outline, by their views, and the link that has a number.
use Rattle.std.proofs.Common.{◌≡◌, ◌<◌, ◌∷◌, [], ℕ, Bool, List, Some, None, get_or, length, map, sym, arith}
use Rattle.std.proofs.Common.{option_map, slice_get}
use Rattle.std.specs.List.{flat_map}
use Rattle.std.proofs.lemmas.List.Folds.{flat_map-map}
use Rattle.std.proofs.lemmas.Option.{get_or_from_slice_get, slice_get-get_or}
use Rattle.markdown_links.specs.LinkEntries.{LinkEntryView}
use Rattle.markdown_links.specs.LinkList.{shown_link}
use Rattle.markdown_links.specs.declared.link.Link.{Link}
use Rattle.markdown_lint_json.specs.PlacedOutline.{placed_entry_line}
use Rattle.markdown_outline.specs.Outline.{entry_view}
use Rattle.markdown_outline.specs.declared.entry.Entry.{Entry}

-- the line of an entry with its place, by its view
abbrev pub line_of_entry_in : (text : List ℕ) → (with_ids : Bool) → Entry → List ℕ
line_of_entry_in text with_ids e = placed_entry_line text with_ids (entry_view e)

-- these, one after another, are the lines of the views
pub lines_of_entries_in : (text : List ℕ) (with_ids : Bool) (entries : List Entry)
    → flat_map (line_of_entry_in text with_ids) entries
    ≡ flat_map (placed_entry_line text with_ids) (map entry_view entries)
lines_of_entries_in text with_ids entries = sym (flat_map-map (placed_entry_line text with_ids) entry_view entries)

-- the entry with a number, where a link is shown for it
pub shown_at : (entries : List LinkEntryView) (i : ℕ) (link : Link) (d : LinkEntryView)
    → option_map shown_link (Some link) ≡ slice_get entries i → get_or entries i d ≡ shown_link link
shown_at entries i link d h = get_or_from_slice_get entries i (shown_link link) d (sym h)

-- there is one for each number below their count
pub shown_within : (entries : List LinkEntryView) (i : ℕ) → i < length entries
    → option_map shown_link None ≡ slice_get entries i → ⊥
shown_within [] i b h = absurd (omega (arith, b))
shown_within (e ∷ entries) i b h = let one = slice_get-get_or (e ∷ entries) i e b in cc (h, one)
