-- Definitions for clauses on HTML, re-exported so that a caller names this crate alone.

-- the HTML of events
pub use Rattle.markdown_out.specs.EventHtml.{html_of, open_html, bytes_after, closing_after}
-- by rules; the words above are those of upstream's
pub use Rattle.markdown_out.specs.EventHtml.{html_by, open_html_by, bytes_after_by}
pub use Rattle.markdown_out.specs.HtmlRules.{upstream_rules}
pub use Rattle.markdown_out.specs.declared.html.rules.HtmlRules.{HtmlRules}
pub use Rattle.markdown_out.specs.ByteLists.{AppendsPrefix}
pub use Rattle.markdown_out.specs.LookBacks.{IsTooDeep}
pub use Rattle.markdown_out.specs.ImageHtml.{ImagesHaveParts, AreMatched, alt_text, image_events, image_html}
-- what `push_html` has read of an iterator, and what the string then holds; and what `push_html_by` has
pub use Rattle.markdown_out.specs.HtmlCorrect.{items, IsRendered, StopsAtError, IsOwnFault}
pub use Rattle.markdown_out.specs.HtmlCorrect.{IsCutShort, IsCutAtEnd, GoesTooDeep}
pub use Rattle.markdown_out.specs.HtmlCorrect.{IsRenderedBy, StopsAtErrorBy, IsOwnFaultBy}
pub use Rattle.markdown_out.specs.HtmlCorrect.{IsCutShortBy, IsCutAtEndBy, GoesTooDeepBy}
-- the HTML of a text, and of what is left of a parser
pub use Rattle.markdown_render.specs.HtmlOfText.{IsTextTooDeep, html_of_text, views_of}
pub use Rattle.markdown_render.specs.Rendering.{Renders}
pub use Rattle.markdown_render.specs.RenderingFor.{AreEventsFor, AreFirstEventsFor, IsHtmlFor, IsTooDeepFor}
pub use Rattle.markdown_render.specs.ParserHtml.{IsHtmlOfAll, IsHtmlOfFirst}
pub use Rattle.markdown_render.specs.Merged.{IsMergedHtmlOf, IsMergeTooDeep, merged_html_of_text}
