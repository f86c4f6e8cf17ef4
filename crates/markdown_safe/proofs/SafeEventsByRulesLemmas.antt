-- The HTML of safe events, by rules: it is safe, and a tree of elements that stand where a browser leaves them.
use Rattle.std.proofs.Common.{◌≡◌, true, List}
use Rattle.markdown_base.specs.Event.{EventView}
use Rattle.markdown_event_laws.specs.NestedEvents.{AreNested, headings_are_apart, items_are_in_lists}
use Rattle.markdown_event_laws.specs.NestedEvents.{table_parts_are_alone, tables_are_whole}
use Rattle.markdown_out.specs.EventHtml.{html_by}
use Rattle.markdown_out.specs.declared.html.rules.HtmlRules.{HtmlRules}
use Rattle.markdown_safe.specs.HtmlTree.{IsSafeTree}
use Rattle.markdown_safe.specs.PageParts.{is_page_part}
use Rattle.markdown_safe.specs.PlacedTree.{IsPlacedTree}
use Rattle.markdown_safe.specs.SafeEvents.{SafePast, no_past, safe_events, safe_from, safe_html_of}
use Rattle.markdown_safe.specs.SafeHtml.{IsSafeHtml}
use Rattle.markdown_safe.specs.SafeRules.{SafeRulesView, html_rules}
use Rattle.markdown_safe.proofs.NestedEventsLemmas.{tree_of_events}
use Rattle.markdown_safe.proofs.PagePartsLemmas.{page_part_passes}
use Rattle.markdown_safe.proofs.PlacedEventsLemmas.{events_are_placed}
use Rattle.markdown_safe.proofs.PreparedEventsLemmas.{made_of_prepared, prepared, prepared_alone, prepared_apart}
use Rattle.markdown_safe.proofs.PreparedEventsLemmas.{prepared_headings, prepared_items, prepared_nest, prepared_tables}
use Rattle.markdown_safe.proofs.SafeEventsLemmas.{made_is_safe}

module _ (rules : SafeRulesView) where
  pub html_from_is_safe : (form : HtmlRules) (past : SafePast) (events : List EventView)
      → IsSafeHtml (html_by form (safe_from rules past events))
  html_from_is_safe form past events =
      rw (made_of_prepared rules past events) (made_is_safe form rules.prefix (prepared rules past events))

  pub html_is_safe : (form : HtmlRules) (events : List EventView) → IsSafeHtml (html_by form (safe_events rules events))
  html_is_safe form events = html_from_is_safe form no_past events

  pub html_is_tree : (events : List EventView) → AreNested events → tables_are_whole events ≡ true
      → IsSafeTree (safe_html_of rules events)
  html_is_tree events nest whole =
      let t = tree_of_events (html_rules rules) rules.prefix (prepared rules no_past events)
      (prepared_nest rules events nest) (prepared_tables rules events nest whole) in
      rw (made_of_prepared rules no_past events) t.whole

  pub html_is_placed : (events : List EventView) → AreNested events → tables_are_whole events ≡ true
      → table_parts_are_alone events ≡ true → items_are_in_lists events ≡ true → headings_are_apart events ≡ true
      → IsPlacedTree (safe_html_of rules events)
  html_is_placed events nest whole alone items headings =
      rw (made_of_prepared rules no_past events)
      (events_are_placed (html_rules rules) rules.prefix (prepared rules no_past events)
      (prepared_nest rules events nest) (record {
        whole = prepared_tables rules events nest whole;
        alone = prepared_alone rules events nest whole alone;
        items = prepared_items rules events nest items;
        headings = prepared_headings rules events nest headings;
        links = prepared_apart rules events nest;
      }))

  pub page_part_is_placed : (events : List EventView) → is_page_part events ≡ true
      → IsPlacedTree (safe_html_of rules events)
  page_part_is_placed events part =
      let p = page_part_passes events part in html_is_placed events p.0 p.1 p.2 p.3 p.4
