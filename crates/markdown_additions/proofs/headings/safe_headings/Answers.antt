-- The headings are those of the events of the text, made safe.
use Rattle.std.proofs.Common.{⊎_elim}
use Rattle.std.proofs.lemmas.Result.{IfErr-weaker, IfOk-weaker}
use Rattle.markdown_additions.specs.TextEvents.{text_steps}
use Rattle.markdown_safe.specs.SafeRules.{rules_view}
use Rattle.markdown_additions.proofs.GivenEventsLemmas.{gives_new_added}
use Rattle.markdown_additions.proofs.NewEventsLemmas.{headings_of_new, headings_stopped_of_new}
use Rattle.markdown_additions.proofs.headings.safe_headings.Goals as goal

pub returns-clause-headings : goal.returns-clause-headings
returns-clause-headings c =
    IfOk-weaker c.outline.result _ _
    (λ entries read a s new. headings_of_new text_steps a s c.args.events
    (gives_new_added a s c.args.events new) (rules_view c.args.rules) c.with_rules-safe.result
    c.with_rules-safe.ensures _ read) c.outline.ensures.entries

pub returns-clause-refused : goal.returns-clause-refused
returns-clause-refused c =
    IfErr-weaker c.outline.result _ _
    (λ fault why a s new. ⊎_elim (λ m. headings_stopped_of_new text_steps a s c.args.events
    (gives_new_added a s c.args.events new) (rules_view c.args.rules) c.with_rules-safe.result
    c.with_rules-safe.ensures fault m) (λ n. n.0) why) c.outline.ensures.fault
