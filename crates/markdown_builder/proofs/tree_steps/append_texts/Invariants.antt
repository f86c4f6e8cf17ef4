-- The Texts over the bytes so far are appended.
use Rattle.std.proofs.Common.{◌≡◌, ◌-◌}
use Rattle.markdown_builder.specs.TreeSteps.{texts_appended}
use Rattle.markdown_builder.proofs.tree_steps.append_texts.Given as goal

abbrev pub invariant-bytes : goal.invariant-bytes
invariant-bytes l = l.tree ≡ texts_appended l.fn.tree l.start (l.at - l.start)
