-- By the lemma.
use Rattle.markdown_brackets.proofs.NoLinkLemmas.{no_link_in_link}
use Rattle.markdown_brackets.proofs.laws.no_link_stands_in_a_link.Goals as goal

pub returns : goal.returns
returns c = (λ addresses. no_link_in_link addresses, λ addresses. no_link_in_link addresses)
