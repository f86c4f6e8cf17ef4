-- What is written are the events of the parser, as a page has them.
use Rattle.std.proofs.Common.{rules}
use Rattle.std.specs.Iterator.Adapters.{map_source}
use Rattle.markdown.specs.ReadingWords.{IsEventOf, NextGives}
use Rattle.markdown_callers.proofs.ChangedEventsLemmas.{all_changed, written}
use Rattle.markdown_callers.proofs.SiteGeneratorLemmas.{changes_on_page}
use Rattle.markdown_callers.proofs.site_generator.page_html.Goals as goal
use Rattle.markdown_callers.specs.SiteGenerator.{IsItemOnPage, event_on_page}

pub returns : goal.returns
returns c =
    let r = c.in_ok-push_html.ensures.ok in
    let left = c.in_ok-parser.ensures.left in
    written event_on_page _ r c.new-html.ensures.bytes left c.in_ok-parser.ensures.callback
    c.map.ensures.source (all_changed event_on_page (NextGives _ IsEventOf) IsItemOnPage changes_on_page r
    map_source (λ m. Unit {0}) tt (λ s t h. h.0) (λ s t y k h. (h.0, h.1, search rules, tt)))
