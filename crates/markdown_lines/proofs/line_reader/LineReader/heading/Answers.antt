-- What was found at the byte offset was found in the line.
use Rattle.std.proofs.Common.{Some, None, [], ◌∷◌, ◌∙◌, sym, ap}
use Rattle.markdown_lines.specs.BlockBeginnings.{begins_heading, first_found}
use Rattle.markdown_lines.specs.BlockStarts.{source_read}
use Rattle.markdown_lines.proofs.BlockStartsLemmas.{heading_read}
use Rattle.markdown_lines.proofs.line_reader.LineReader.heading.Goals as goal

pub returns-in-Some : goal.returns-in-Some
returns-in-Some c =
    ap (λ found. Some (first_found (found ∷ [])))
    (ap (λ heading. Some (begins_heading heading)) c.whole_heading.ensures
    ∙ heading_read (source_read c.args.self.now) c.args.here c.args.self.now.stop (Some c.in-Some.heading)
    (sym c.in-Some.is ∙ c.atx_heading.ensures.value))

pub returns-in-None : goal.returns-in-None
returns-in-None c =
    ap (λ found. Some (first_found (found ∷ [])))
    (heading_read (source_read c.args.self.now) c.args.here c.args.self.now.stop None
    (sym c.in-None.is ∙ c.atx_heading.ensures.value))
