-- What is resolved is closed, and a closed forest reads so.
use Rattle.markdown_document.specs.Document.{no_notes}
use Rattle.markdown_resolver.specs.Resolved.{resolved}
use Rattle.markdown_resolver.proofs.ResolvingLemmas.{resolved-literal}
use Rattle.markdown_inline.proofs.ReadingLemmas.{reading-literal}
use Rattle.markdown_inline.proofs.laws.walk_reads_what_is_defined.Goals as goal

pub returns : goal.returns
returns c = λ s above chain state later after q. reading-literal s above
    (resolved s no_notes above chain state).forest after
    (resolved-literal s no_notes above chain state q) later
