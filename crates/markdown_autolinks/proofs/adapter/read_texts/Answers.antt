-- The run begins with the Text that was read first.
use Rattle.std.proofs.Common.{◌∙◌, ap, map, List, ◌++◌, ◌∷◌, [], Ok}
use Rattle.std.specs.declared.ops.Range.{Range}
use Rattle.std.proofs.Common.{ℕ}
use Rattle.markdown_base.specs.declared.event.Event.{Event}
use Rattle.markdown_out.specs.Merge.{Item}
use Rattle.markdown_autolinks.specs.AutolinksNext.{item_read}
use Rattle.markdown_autolinks.specs.LinkedEvents.{texts_events}
use Rattle.markdown_autolinks.specs.RunRead.{texts_of}
use Rattle.markdown_autolinks.proofs.ReadLemmas.{texts_read}
use Rattle.markdown_autolinks.proofs.adapter.read_texts.Goals as goal

pub returns-clause-read : goal.returns-clause-read
returns-clause-read g c =
    texts_read c.args.source.now g.I.Iterator.next_gives c.in_ok-after.ensures.read
    (c.in_ok-push.ensures.items
    ∙ ap (λ (run : List (Event × Range ℕ)). run ++ c.args.first ∷ []) c.new-run.ensures.items)
    (c.in_ok-push_run.ensures
    ∙ ap (λ (made : List (Item (Range ℕ))). made
    ++ map (λ e. Ok e) (texts_events c.args.source.now (texts_of c.read_run.new.run.items)))
    (ap (map item_read) c.requires.nothing))
