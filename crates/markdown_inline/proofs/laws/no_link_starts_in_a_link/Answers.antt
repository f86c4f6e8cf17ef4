-- By the lemma.
use Rattle.markdown_inline.proofs.NoLinkInLinkEventsLemmas.{no-link-law}
use Rattle.markdown_inline.proofs.laws.no_link_starts_in_a_link.Goals as goal

pub returns : goal.returns
returns c = no-link-law
