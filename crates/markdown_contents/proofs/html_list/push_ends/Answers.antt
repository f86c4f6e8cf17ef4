-- The ends of an item and its list more are those of one level more.
use Rattle.std.proofs.Common.{◌∙◌, ◌++◌, ◌∷◌, [], ap, append_assoc, false, map, sym}
use Rattle.markdown_base.specs.Event.{end, event_view}
use Rattle.markdown_base.specs.declared.tag.TagEnd.{TagEnd}
use Rattle.markdown_contents.specs.HtmlList.{list_ends}
use Rattle.markdown_contents.proofs.HtmlListLemmas.{ends-more}
use Rattle.markdown_contents.proofs.html_list.push_ends.Goals as goal

pub loop-preserved : goal.loop-preserved
loop-preserved c =
    let old = map event_view c.args.events.now.items in
    let ends = list_ends c.loop.counter in
    c.in_ok-push-2.ensures.ok
    ∙ ap (λ w. w ++ end (TagEnd.List false) ∷ [])
    (c.in_ok-push.ensures.ok ∙ ap (λ w. w ++ end TagEnd.Item ∷ []) c.loop.invariant)
    ∙ ap (λ w. w ++ end (TagEnd.List false) ∷ []) (append_assoc old ends (end TagEnd.Item ∷ []))
    ∙ append_assoc old (ends ++ end TagEnd.Item ∷ []) (end (TagEnd.List false) ∷ [])
    ∙ ap (λ w. old ++ w) (append_assoc ends (end TagEnd.Item ∷ []) (end (TagEnd.List false) ∷ [])
    ∙ sym (ends-more c.loop.counter))
