-- What is known of the lines says that none closes metadata, and a search that found none says so from there on.
use Rattle.std.proofs.Common.{◌∙◌, refl, sym, arith, drop, length}
use Rattle.markdown_lines.proofs.LinesAheadLemmas.{none_closes, nothing_closes}
use Rattle.markdown_lines.proofs.lines_ahead.LinesAhead.is_closed.Goals as goal

pub returns-then-unclosed_from-from-clause-value : goal.returns-then-unclosed_from-from-clause-value
returns-then-unclosed_from-from-clause-value c =
    let text = c.args.self.now.text.now in
    sym (none_closes c.args.kind text c.unclosed_from.result c.unclosed_from.ensures (length (drop c.args.from text))
    c.args.from (drop c.args.from text) refl c.if-unclosed_from-from.true c.requires)

pub note_unclosed-requires : goal.note_unclosed-requires
note_unclosed-requires c =
    let text = c.args.self.now.text.now in
    nothing_closes c.args.kind text (length (drop c.args.from text)) c.args.from (drop c.args.from text) refl
    (omega arith) (sym c.one_closes-closed.ensures ∙ c.if-not-closed.true)
