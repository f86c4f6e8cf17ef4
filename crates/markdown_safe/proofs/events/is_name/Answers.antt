-- A name that is not empty.
use Rattle.std.proofs.Common.{sym, ◌∙◌}
use Rattle.std.proofs.lemmas.Str.Pattern.{starts_text}
use Rattle.markdown_safe.specs.SafeEvents.{id_prefix}
use Rattle.markdown_safe.proofs.TargetLemmas.{name-some}
use Rattle.markdown_safe.proofs.events.is_name.Goals as goal

pub returns-then-not-is_empty : goal.returns-then-not-is_empty
returns-then-not-is_empty c =
    name-some c.args.name.now c.starts_with.result (sym c.is_empty.ensures ∙ c.if-not-is_empty.true)
    (starts_text c.starts_with.result id_prefix c.args.name.now c.starts_with.ensures.cases)
