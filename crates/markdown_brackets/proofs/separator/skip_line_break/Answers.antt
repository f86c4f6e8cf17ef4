use Rattle.std.proofs.Common.{sym}
use Rattle.std.proofs.lemmas.Str.{IsCharBoundary-start}
use Rattle.std.proofs.lemmas.List.{take_rest}
use Rattle.markdown_brackets.proofs.SeparatorLemmas.{line_ending_is_ascii, if_some, after_ascii, after_more_ascii}
use Rattle.markdown_brackets.proofs.SeparatorLemmas.{BeginsAscii}
use Rattle.markdown_brackets.proofs.separator.skip_line_break.Goals as goal

pub returns-in_default-clause-boundary : goal.returns-in_default-clause-boundary
returns-in_default-clause-boundary g c = IsCharBoundary-start c.args.text.now c.utf8.text

pub returns-in-Some-skip-clause-boundary : goal.returns-in-Some-skip-clause-boundary
returns-in-Some-skip-clause-boundary g c =
    let text = c.args.text.now in
    let ending = c.in-Some.ending in
    let found = rw c.as_bytes-bytes.ensures.value at (sym c.in-Some.ensures.value) in
    let begins = if_some _ (BeginsAscii text) ending (line_ending_is_ascii text) found in
    let here = after_ascii text ending c.utf8.text begins in
    let within = rw (c.as_bytes-bytes.ensures.value, take_rest) at c.in-Some-skip.ensures.within in
    let all = rw (c.as_bytes-bytes.ensures.value, take_rest) at c.in-Some-skip.ensures.ascii in
    after_more_ascii text ending c.in-Some-skip.prefix c.utf8.text here within all
