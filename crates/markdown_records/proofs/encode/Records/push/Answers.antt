-- The record of the draft follows those before it.
use Rattle.std.proofs.Common.{◌++◌, ◌∙◌, List, ℕ, ap, refl}
use Rattle.markdown_records.specs.RecordOf.{draft_view}
use Rattle.markdown_records.proofs.WritesLemmas.{writes_draft}
use Rattle.markdown_records.proofs.encode.Records.push.Goals as goal

pub returns : goal.returns
returns c =
    let bytes = rw c.in_ok-small.ensures.0 at c.bytes.ensures in
    writes_draft (draft_view c.args.draft) c.in_ok-spot.ensures refl refl c.in-Some.ensures.1
    (c.in_ok-extend_from_slice.ensures.items ∙ ap (λ (b : List ℕ). c.spot.new.self.records.items ++ b) bytes) refl
