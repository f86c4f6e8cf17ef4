-- What is left is taken, and then the callback; where nothing was given before, it is a whole document.
use Rattle.markdown_inline.proofs.WholeRunLemmas.{whole_run}
use Rattle.markdown_inline.proofs.walk.OffsetIter.into_events.Goals as goal

pub returns-clause-all : goal.returns-clause-all
returns-clause-all g c = rw c.into_callback-callback.ensures c.in_ok-rest.ensures.all

pub returns-clause-whole : goal.returns-clause-whole
returns-clause-whole g c =
    whole_run g.F.BrokenLinkCallback.answers c.args.self.inner c.in_ok-rest.field-0.items _ (returns-clause-all g c)
