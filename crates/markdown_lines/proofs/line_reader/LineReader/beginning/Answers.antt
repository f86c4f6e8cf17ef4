-- The rest of the line is blank where all of it is white space.
use Rattle.std.proofs.Common.{◌≡◌, ℕ, List, length, ◌∙◌, sym, ap}
use Rattle.std.specs.List.{prefix_len}
use Rattle.markdown_lines.specs.BlockStarts.{beginning_found, line_at, source_read}
use Rattle.markdown_lines.specs.Lines.{is_space_or_tab}
use Rattle.markdown_lines.proofs.BlockStartsLemmas.{nothing_read, something_read}
use Rattle.markdown_lines.proofs.line_reader.LineReader.beginning.Goals as goal
use Rattle.markdown_lines.proofs.line_reader.LineReader.beginning.Goals.{then-white-rest, else-white-rest+in_ok-start}

pub returns-clause-begins : goal.returns-clause-begins
returns-clause-begins c =
    let reader = c.args.self.now in
    let l = line_at reader c.args.position in
    let white : c.white_length-white.result ≡ prefix_len is_space_or_tab l.left.bytes =
    c.white_length-white.ensures.value
    ∙ ap (prefix_len is_space_or_tab) c.bytes_of-rest.ensures in
    let size = ap (λ (bytes : List ℕ). length bytes) c.bytes_of-rest.ensures in
    elim c.if-white-rest.branch [
      | then-white-rest w ↦ ap (beginning_found reader) w.start-is
          ∙ nothing_read (source_read reader) c.args.before l (sym white ∙ (w.if-white-rest.true ∙ size))
      | else-white-rest+in_ok-start w ↦ ap (beginning_found reader) w.start-is
          ∙ (w.in_ok-start.ensures.begins
          ∙ something_read (source_read reader) c.args.before l
          (λ same. w.if-white-rest.false (white ∙ (same ∙ sym size))))
    ]
