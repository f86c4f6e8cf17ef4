-- By what case folding is.
use Rattle.markdown_defs.specs.Folding.{case_folding}
use Rattle.markdown_text_records.proofs.fold.fold_label.Goals as goal

pub returns-clause-folded : goal.returns-clause-folded
unfolding case_folding
returns-clause-folded c = c.in_ok-default_case_fold_str.ensures
