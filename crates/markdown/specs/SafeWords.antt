-- Definitions for clauses on safe HTML, re-exported so that a caller names this crate alone.

-- safe HTML
pub use Rattle.markdown_safe.specs.SafeHtml.{IsSafeHtml, IsStartOfSafeHtml, HtmlPiece, character, start_tag, end_tag}
pub use Rattle.markdown_safe.specs.SafeHtml.{void_tag, bytes_of_piece, is_safe_piece, is_safe_attribute, Attribute}
pub use Rattle.markdown_safe.specs.SafeHtml.{Character, by_itself, by_reference, character_bytes, meant}
pub use Rattle.markdown_safe.specs.SafeUrl.{is_safe_url, before_colon, is_scheme, is_scheme_of, image_schemes}
pub use Rattle.markdown_safe.specs.SafeUrl.{link_schemes}
pub use Rattle.markdown_safe.specs.TagStarts.{EachLessThanBeginsATag, BeginsTag, IsTag}
-- safe HTML as a tree, whose elements stand where a browser leaves them
pub use Rattle.markdown_safe.specs.HtmlTree.{HtmlTree, tree_end, tree_text, element, void_element, tree_pieces}
pub use Rattle.markdown_safe.specs.HtmlTree.{IsSafeTree}
pub use Rattle.markdown_safe.specs.PlacedTree.{IsPlacedTree, is_placed, may_stand, is_apart, is_held}
pub use Rattle.markdown_safe.specs.PlacedTree.{is_directly_in, kinds_apart, parts_and_holders}
-- events whose HTML is such a tree
pub use Rattle.markdown_event_laws.specs.NestedEvents.{AreNested, NestFrom, IsAwaited, awaited_after, tables_are_whole}
pub use Rattle.markdown_event_laws.specs.NestedEvents.{table_parts_are_alone, items_are_in_lists, headings_are_apart}
pub use Rattle.markdown_safe.specs.PageParts.{is_page_part, is_part_from, may_come, is_awaited, none_is_awaited}
pub use Rattle.markdown_safe.specs.PageParts.{end_number}
-- what a caller chooses
pub use Rattle.markdown_safe.specs.SafeRules.{SafeRulesView, rules_view, default_rules, html_rules}
pub use Rattle.markdown_safe.specs.declared.rules.Images.{Images}
pub use Rattle.markdown_safe.specs.declared.rules.SafeRules.{SafeRules}
-- safe events, and their HTML
pub use Rattle.markdown_safe.specs.SafeEvents.{safe_event, safe_events, safe_html_of, safe_next, safe_from}
pub use Rattle.markdown_safe.specs.SafeEvents.{SafePast, no_past, past_after, event_shown, uncommented, comment_after}
pub use Rattle.markdown_safe.specs.SafeEvents.{safe_tag, safe_destination, safe_name, id_prefix, is_name}
pub use Rattle.markdown_safe.specs.SafeEvents.{safe_info, safe_link, safe_link_destination, safe_target, safe_image}
pub use Rattle.markdown_safe.specs.SafeEvents.{safe_block_html, safe_inline_html, without_scheme}
pub use Rattle.markdown_safe.specs.OuterLinks.{links_after, outermost, written_reference}
pub use Rattle.markdown_safe.specs.ShownImages.{shown_image}
pub use Rattle.markdown_safe.specs.Shallow.{shallow, is_emptied, is_left_out, levels, no_depth, depth_after}
pub use Rattle.markdown_safe.specs.NestNoDeeper.{nest_no_deeper, stays_within}
pub use Rattle.markdown_safe.specs.Comments.{shown_html, has_comment, without_comments, ends_in_comment}
pub use Rattle.markdown_safe.specs.Comments.{opens_comment, closes_comment, is_all_white_space}
pub use Rattle.markdown_safe.specs.VoidTags.{is_tag_of}
-- the iterators of them
pub use Rattle.markdown_safe.specs.SafeItems.{SafeReading, IsSafeItem, GivesSafe, IsSafePlaced, GivesSafePlaced}
pub use Rattle.markdown_safe.specs.SafeSource.{safe_reading, placed_reading, new_reading, safe_steps}
pub use Rattle.markdown_safe.specs.SafeSource.{safe_source, placed_source}
pub use Rattle.markdown_safe.specs.declared.adapter.Safe.{Safe}
pub use Rattle.markdown_safe.specs.declared.adapter.SafeWithOffset.{SafeWithOffset}
-- the safe HTML of a text
pub use Rattle.markdown_safe.specs.SafeRendering.{IsSafeHtmlFor, IsSafeTextTooDeep, IsSafeTooDeepFor, safe_html_of_text}
pub use Rattle.markdown_safe.specs.SafeTexts.{TextsAreSafe, TextsAreTrees}
