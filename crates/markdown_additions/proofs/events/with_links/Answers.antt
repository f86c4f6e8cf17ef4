-- Nothing has been read of the events, with links or without them.
use Rattle.markdown_additions.proofs.GivenEventsLemmas.{new_with_links}
use Rattle.markdown_additions.proofs.events.with_links.Goals as goal

pub returns-then-autolinks : goal.returns-then-autolinks
returns-then-autolinks c s is new =
    rw c.if-autolinks.true (new_with_links s c.args.text.now c.new.result c.args.events c.new.ensures is new)

pub returns-else-autolinks : goal.returns-else-autolinks
returns-else-autolinks c s is new = rw c.if-autolinks.false new
