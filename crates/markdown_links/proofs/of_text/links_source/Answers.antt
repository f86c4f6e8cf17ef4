-- The links are those of a new parser.
use Rattle.std.proofs.Common.{⊎_elim}
use Rattle.std.proofs.lemmas.Result.{IfErr-weaker, IfOk-weaker}
use Rattle.markdown_links.proofs.ParserLinksLemmas.{fault_of_memory, links_of_parser}
use Rattle.markdown_links.proofs.of_text.links_source.Goals as goal

pub returns-clause-links : goal.returns-clause-links
returns-clause-links c =
    IfOk-weaker c.links.result _ _
    (λ list h. links_of_parser _ _ c.into_offset_iter.result _
    (rw c.into_offset_iter.ensures c.in_ok-parser.ensures.left)
    (rw c.into_offset_iter.ensures c.in_ok-parser.ensures.callback) h) c.links.ensures.links

pub returns-clause-refused : goal.returns-clause-refused
returns-clause-refused c =
    IfErr-weaker c.links.result _ _
    (λ fault h. ⊎_elim (λ m. fault_of_memory _ c.into_offset_iter.result fault m) (λ n. n.0) h) c.links.ensures.fault
