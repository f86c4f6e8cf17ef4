-- What becomes of the items that were read is kept.
use Rattle.std.proofs.Common.{◌∷◌, [], ◌∙◌, ap, map}
use Rattle.std.proofs.lemmas.List.{map-append}
use Rattle.markdown_autolinks.specs.AutolinksNext.{item_read}
use Rattle.markdown_autolinks.specs.AutolinksState.{linked_state}
use Rattle.markdown_autolinks.proofs.ReadLemmas.{fills_none, fills_some}
use Rattle.markdown_autolinks.proofs.adapter.Autolinks.fill.Goals as goal

pub returns-in_default-clause-fills : goal.returns-in_default-clause-fills
returns-in_default-clause-fills g c =
    fills_none g.I.Iterator.next_gives (linked_state c.args.self.now) c.in_ok-item.ensures.read c.in_default.is
    (ap (map item_read) c.from_vec.ensures.items)

pub returns-clause-fills : goal.returns-clause-fills
returns-clause-fills g c =
    fills_some g.I.Iterator.next_gives (linked_state c.args.self.now) c.in_ok-item.ensures.read c.in-Some.is
    c.requires.reads
    (ap (map item_read) c.from_vec-2.ensures.items ∙ ap (map item_read) c.in_ok-push.ensures.items
    ∙ map-append item_read c.read_next.new.made.items (c.in-Some.item ∷ []))
    c.in_ok-self.ensures.after
