-- What is written are the events of the parser, each with its destination changed; the closure keeps its site.
use Rattle.std.proofs.Common.{◌≡◌, refl, rules}
use Rattle.std.specs.Iterator.Adapters.{map_callee, map_source}
use Rattle.markdown.specs.ReadingWords.{IsEventOf, NextGives}
use Rattle.markdown_callers.proofs.ChangedEventsLemmas.{all_changed, written}
use Rattle.markdown_callers.proofs.LinkRewriterLemmas.{changes_at_site}
use Rattle.markdown_callers.proofs.link_rewriter.html_at_site.Goals as goal
use Rattle.markdown_callers.specs.LinkRewriter.{IsItemAtSite, event_at_site}

pub returns : goal.returns
returns c =
    let r = c.in_ok-push_html.ensures.ok in
    let left = c.in_ok-parser.ensures.left in
    let site = c.args.site.now in
    written (event_at_site site) _ r c.new-html.ensures.bytes left c.in_ok-parser.ensures.callback
    c.map-events.ensures.source (all_changed (event_at_site site) (NextGives _ IsEventOf)
    (IsItemAtSite site) (changes_at_site site) r map_source
    (λ m. map_callee m ≡ map_callee c.map-events.result) refl (λ s t h. h.0)
    (λ s t y k h. (h.0, h.1, search rules, search rules)))
