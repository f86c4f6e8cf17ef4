-- What is written is the safe HTML of the events of the text.
use Rattle.std.proofs.lemmas.Result.{err_from_is_err_and}
use Rattle.markdown_additions.specs.TextEvents.{text_steps}
use Rattle.markdown_safe.specs.SafeRules.{rules_view}
use Rattle.markdown_additions.proofs.GivenEventsLemmas.{gives_new_added}
use Rattle.markdown_additions.proofs.NewEventsLemmas.{safe_faults_of_new, safe_html_of_new}
use Rattle.markdown_additions.proofs.TreeLemmas.{tree_of_new}
use Rattle.markdown_additions.proofs.written.safe_html.Goals as goal

pub returns-clause-written : goal.returns-clause-written
returns-clause-written c a s new =
    safe_html_of_new text_steps a s c.args.events (gives_new_added a s c.args.events new)
    c.new-unplaced.result c.new-unplaced.ensures (rules_view c.args.rules)
    c.with_rules-safe.result c.with_rules-safe.ensures c.html-form.result c.html-form.ensures _ _
    c.new-written.ensures.bytes c.in_ok-push_html_by.ensures.ok

pub returns-clause-tree : goal.returns-clause-tree
returns-clause-tree c a s new =
    rw (returns-clause-written c a s new) (tree_of_new (rules_view c.args.rules) a s c.args.events new)

pub returns-in_err-push_html_by-clause-faults : goal.returns-in_err-push_html_by-clause-faults
returns-in_err-push_html_by-clause-faults c =
    let p = err_from_is_err_and c.from_residual.result c.from_residual.ensures.1 in
    rw (p.1, p.2) (λ a s new. safe_faults_of_new text_steps a s c.args.events
    (gives_new_added a s c.args.events new) c.new-unplaced.result c.new-unplaced.ensures (rules_view c.args.rules)
    c.with_rules-safe.result c.with_rules-safe.ensures c.html-form.result c.html-form.ensures _ _ _
    c.in_err-push_html_by.ensures.err)
