-- The link leads where the tail does, and its title has the tail's origin.
use Rattle.std.proofs.Common.{[], ◌∷◌, ap, refl}
use Rattle.markdown_document.specs.Origins.{Origin}
use Rattle.markdown_brackets.proofs.tries.inline_link.Goals as goal

pub returns : goal.returns
returns c w o t opener is from = (
  opener,
  rw (is.destination, is.title) refl,
  is.ends,
  is.ends,
  ap (λ (origin : Origin). origin ∷ []) is.title_origin,
  rw (← is.ends) from,
)
