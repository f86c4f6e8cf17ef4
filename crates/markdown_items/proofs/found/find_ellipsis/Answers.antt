-- Three dots end between characters.
use Rattle.std.proofs.Common.{sym, ◌∙◌}
use Rattle.markdown_items.proofs.ItemLemmas.{past_dots}
use Rattle.markdown_items.proofs.found.find_ellipsis.Goals as goal

pub returns-then-starts_with-clause-fits : goal.returns-then-starts_with-clause-fits
returns-then-starts_with-clause-fits c =
    past_dots c.args.text.now c.args.line c.args.at c.utf8.text c.requires
    (rw c.as_bytes.ensures.value at (sym c.starts_with.ensures.value ∙ c.if-starts_with.true))
