-- An item that becomes an event with the site's address in its destination is an event.
use Rattle.std.proofs.Common.{ℕ, List, Ok, Err, refl}
use Rattle.markdown_callers.proofs.ChangedEventsLemmas.{Changes}
use Rattle.markdown_callers.specs.LinkRewriter.{IsItemAtSite, event_at_site}

-- it is the event that is changed so
pub changes_at_site : (site : List ℕ) → Changes (event_at_site site) (IsItemAtSite site)
changes_at_site site (Ok read) e made = (read, refl, made)
changes_at_site site (Err fault) e made = cc made
