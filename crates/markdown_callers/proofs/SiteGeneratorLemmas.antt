-- An item that becomes an event on a page is an event.
use Rattle.std.proofs.Common.{Ok, Err, refl}
use Rattle.markdown_callers.proofs.ChangedEventsLemmas.{Changes}
use Rattle.markdown_callers.specs.SiteGenerator.{IsItemOnPage, event_on_page}

-- it is the event that the page has, changed as on a page
pub changes_on_page : Changes event_on_page IsItemOnPage
changes_on_page (Ok read) e made = (read, refl, made)
changes_on_page (Err fault) e made = cc made
