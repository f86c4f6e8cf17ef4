use Rattle.std.proofs.Common.{◌≡◌}
use Rattle.markdown_brackets.specs.Separator.{blanks}
use Rattle.markdown_brackets.proofs.SeparatorLemmas.{blanks_are_ascii, after_ascii}
use Rattle.markdown_brackets.proofs.separator.skip_blanks.Goals as goal

pub returns-clause-boundary : goal.returns-clause-boundary
returns-clause-boundary c =
    let value : c.count_blanks.result ≡ blanks c.args.text.now = rw c.as_bytes.ensures.value at c.count_blanks.ensures
    in
    rw value (after_ascii c.args.text.now (blanks c.args.text.now) c.utf8.text (blanks_are_ascii c.args.text.now))
