-- A row begins where the text is cut, and is whole behind it.
use Rattle.std.proofs.Common.{sym, true≢false}
use Rattle.markdown_entities.proofs.CutLemmas.{cuts_none, cuts_row, has_characters, is_boundary, place}
use Rattle.markdown_entities.proofs.named_entity.row_in_middle.Goals as goal

pub returns-in_err-before-clause-cases : goal.returns-in_err-before-clause-cases
returns-in_err-before-clause-cases c = λ known is ok.
    let n = c.middle_row.result in
    let at = place known c.args.rows.now c.as_bytes.result.now n is ok c.as_bytes.ensures.value
    c.middle_row.ensures.half c.middle_row.ensures.after_space in
    absurd (true≢false (sym (c.in_err-before.ensures.variant.1 (is_boundary known c.args.rows.now n at c.utf8.rows))))

pub returns-in_err-name-clause-cases : goal.returns-in_err-name-clause-cases
returns-in_err-name-clause-cases c =
    rw c.from_residual-in_err-name.ensures (λ known is ok.
    let at = place known c.args.rows.now c.as_bytes.result.now c.middle_row.result is ok c.as_bytes.ensures.value
    c.middle_row.ensures.half c.middle_row.ensures.after_space in
    cuts_none at c.in_ok-before.rest.now c.in_ok-before.ensures.back c.in_err-name.ensures.cases)

pub returns-in_err-characters-clause-cases : goal.returns-in_err-characters-clause-cases
returns-in_err-characters-clause-cases c = λ known is ok.
    let at = place known c.args.rows.now c.as_bytes.result.now c.middle_row.result is ok c.as_bytes.ensures.value
    c.middle_row.ensures.half c.middle_row.ensures.after_space in
    absurd (has_characters at c.in_ok-before.rest.now c.in_ok-before.ensures.back c.in_ok-name.name c.in_ok-name.rest
    c.in_ok-name.ensures.cases c.in_err-characters.ensures.cases)

pub returns-clause-cases : goal.returns-clause-cases
returns-clause-cases c = λ known is ok.
    let at = place known c.args.rows.now c.as_bytes.result.now c.middle_row.result is ok c.as_bytes.ensures.value
    c.middle_row.ensures.half c.middle_row.ensures.after_space in
    cuts_row at c.in_ok-before.rest.now c.in_ok-before.ensures.back c.in_ok-name.name c.in_ok-name.rest
    c.in_ok-name.ensures.cases c.in_ok-before.before.now c.in_ok-characters.characters c.in_ok-characters.after
    c.in_ok-before.ensures.front c.in_ok-characters.ensures.cases
