-- The entries that a `LinkList` holds, and that of a `Link`.
use Rattle.std.specs.Prelude.{List, map}
use Rattle.std.specs.String.{string_bytes}
use Rattle.markdown_links.specs.CutOut.{found_entry}
use Rattle.markdown_links.specs.LinkEntries.{LinkEntryView}
use Rattle.markdown_links.specs.declared.link.Link.{Link}
use Rattle.markdown_links.specs.declared.list.LinkList.{LinkList}

-- the entry of a `Link`
abbrev pub shown_link : Link → LinkEntryView
shown_link l = record {
  is_image = l.is_image;
  leads = record { kind = l.link_type; destination = l.dest_url.now; title = l.title.now; label = l.id.now };
  text = l.text.now;
  range = l.range;
}

-- the entries of a `LinkList`
abbrev pub list_entries : LinkList → List LinkEntryView
list_entries l = map (found_entry (string_bytes l.texts)) l.found.items
