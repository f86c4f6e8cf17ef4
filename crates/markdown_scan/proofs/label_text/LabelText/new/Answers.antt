use Rattle.std.proofs.lemmas.Str.{IsCharBoundary-start}
use Rattle.markdown_scan.proofs.label_text.LabelText.new.Goals as goal

pub invariant_of-result-clause-boundary : goal.invariant_of-result-clause-boundary
invariant_of-result-clause-boundary c = IsCharBoundary-start c.args.source.now c.utf8.source
