-- What was found at the byte offset was found in the line.
use Rattle.std.proofs.Common.{Some, None, [], ◌∷◌, ◌∙◌, sym, ap}
use Rattle.markdown_lines.specs.BlockBeginnings.{first_found}
use Rattle.markdown_lines.specs.BlockStarts.{source_read}
use Rattle.markdown_lines.specs.CodeFences.{opening_fence_at}
use Rattle.markdown_lines.proofs.BlockStartsLemmas.{fence_read}
use Rattle.markdown_lines.proofs.line_reader.LineReader.fence.Goals as goal

pub returns-in-Some : goal.returns-in-Some
returns-in-Some c =
    let reader = c.args.self.now in
    ap (λ found. Some (first_found (found ∷ [])))
    (fence_read (source_read reader) c.args.space.columns c.args.space.after reader.stop (Some c.in-Some.opening)
    c.requires (sym c.in-Some.is ∙ (c.opening_fence.ensures
    ∙ ap (λ byte. opening_fence_at reader.text.now c.args.space.after.at reader.stop byte c.args.space.columns)
    c.first_byte-byte.ensures)))

pub returns-in-None : goal.returns-in-None
returns-in-None c =
    let reader = c.args.self.now in
    ap (λ found. Some (first_found (found ∷ [])))
    (fence_read (source_read reader) c.args.space.columns c.args.space.after reader.stop None
    c.requires (sym c.in-None.is ∙ (c.opening_fence.ensures
    ∙ ap (λ byte. opening_fence_at reader.text.now c.args.space.after.at reader.stop byte c.args.space.columns)
    c.first_byte-byte.ensures)))
