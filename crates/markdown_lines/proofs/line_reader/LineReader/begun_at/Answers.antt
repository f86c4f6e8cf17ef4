-- What begins after fewer than four columns of space is metadata, or begins there.
use Rattle.std.proofs.Common.{◌≡◌, Some, IfOk, ◌∙◌, sym, ap, subst}
use Rattle.std.specs.Prelude.{unwrap_or}
use Rattle.std.specs.Option.{option_map}
use Rattle.markdown_lines.specs.BlockBeginnings.{Beginning, begins_after, begins_metadata}
use Rattle.markdown_lines.specs.BlockStarts.{beginning_found, left_at, line_at, source_read}
use Rattle.markdown_lines.proofs.BlockStartsLemmas.{begins_few}
use Rattle.markdown_lines.proofs.line_reader.LineReader.begun_at.Goals as goal

pub returns-in-Some-clause-begins : goal.returns-in-Some-clause-begins
returns-in-Some-clause-begins c =
    let reader = c.args.self.now in
    let space = c.read_space-space in
    let other = begins_after (source_read reader) c.args.before space.result.columns
    (left_at reader space.result.after) in
    ap (λ (beginning : Beginning). Some beginning)
    (ap (λ found. unwrap_or found other) (ap (option_map begins_metadata) (sym c.in-Some.is) ∙ c.metadata.ensures)
    ∙ begins_few (source_read reader) c.args.before (line_at reader c.args.position) space.result.columns
    (left_at reader space.result.after) space.ensures.value.columns space.ensures.value.after c.if-space-lt4.true)

pub returns-in-None-clause-begins : goal.returns-in-None-clause-begins
returns-in-None-clause-begins c =
    let reader = c.args.self.now in
    let space = c.read_space-space in
    let other = begins_after (source_read reader) c.args.before space.result.columns
    (left_at reader space.result.after) in
    subst (λ (beginning : Beginning). IfOk c.begun_after.result (λ start. beginning_found reader start ≡ Some
    beginning))
    (ap (λ found. unwrap_or found other) (ap (option_map begins_metadata) (sym c.in-None.is) ∙ c.metadata.ensures)
    ∙ begins_few (source_read reader) c.args.before (line_at reader c.args.position) space.result.columns
    (left_at reader space.result.after) space.ensures.value.columns space.ensures.value.after c.if-space-lt4.true)
    c.begun_after.ensures.begins
