-- What begins, by the first byte.
use Rattle.std.proofs.Common.{◌≡◌, false, Some, IfOk, ◌∙◌, sym, ap, subst, arith}
use Rattle.std.proofs.lemmas.Bool.Decides.{nat_tests}
use Rattle.std.specs.Char.{is_ascii_digit}
use Rattle.markdown_lines.specs.BlockBeginnings.{Beginning}
use Rattle.markdown_lines.specs.BlockStarts.{beginning_found, left_at, source_read}
use Rattle.markdown_lines.proofs.BlockStartsLemmas.{slice_same, after_hash, after_fence_byte, after_less_than}
use Rattle.markdown_lines.proofs.BlockStartsLemmas.{after_bracket, after_mark, after_digit, after_other}
use Rattle.markdown_lines.proofs.BlockStartsLemmas.{is_fence_byte, is_mark}
use Rattle.markdown_lines.proofs.line_reader.LineReader.begun_after.Goals as goal

pub returns-then-byte-eq35-clause-begins : goal.returns-then-byte-eq35-clause-begins
returns-then-byte-eq35-clause-begins c =
    let reader = c.args.self.now in
    let here = c.args.space.after in
    let value = after_hash (source_read reader) c.args.before c.args.space.columns (left_at reader here)
    (slice_same reader.text.now here.at reader.stop)
    (sym c.first_byte-byte.ensures ∙ c.if-byte-eq35.true) in
    c.heading.ensures ∙ ap (λ (beginning : Beginning). Some beginning) (sym value)

pub returns-then-is_fence_byte-clause-begins : goal.returns-then-is_fence_byte-clause-begins
returns-then-is_fence_byte-clause-begins c =
    let reader = c.args.self.now in
    let here = c.args.space.after in
    let value = after_fence_byte (source_read reader) c.args.before c.args.space.columns (left_at reader here)
    (slice_same reader.text.now here.at reader.stop)
    (ap is_fence_byte (sym c.first_byte-byte.ensures) ∙ (sym c.is_fence_byte.ensures ∙ c.if-is_fence_byte.true)) in
    c.fence.ensures ∙ ap (λ (beginning : Beginning). Some beginning) (sym value)

pub returns-then-byte-eq60-clause-begins : goal.returns-then-byte-eq60-clause-begins
returns-then-byte-eq60-clause-begins c =
    let reader = c.args.self.now in
    let here = c.args.space.after in
    let value = after_less_than (source_read reader) c.args.before c.args.space.columns (left_at reader here)
    (slice_same reader.text.now here.at reader.stop)
    (sym c.first_byte-byte.ensures ∙ c.if-byte-eq60.true) in
    subst (λ (beginning : Beginning). IfOk c.html.result (λ start. beginning_found reader start ≡ Some beginning))
    (sym value)
    c.html.ensures

pub returns-then-byte-eq91-clause-begins : goal.returns-then-byte-eq91-clause-begins
returns-then-byte-eq91-clause-begins c =
    let reader = c.args.self.now in
    let here = c.args.space.after in
    let value = after_bracket (source_read reader) c.args.before c.args.space.columns (left_at reader here)
    (slice_same reader.text.now here.at reader.stop)
    (sym c.first_byte-byte.ensures ∙ c.if-byte-eq91.true) in
    subst (λ (beginning : Beginning). IfOk c.footnote.result (λ start. beginning_found reader start ≡ Some
    beginning)) (sym value)
    c.footnote.ensures

pub returns-then-is_mark-clause-begins : goal.returns-then-is_mark-clause-begins
returns-then-is_mark-clause-begins c =
    let reader = c.args.self.now in
    let here = c.args.space.after in
    let value = after_mark (source_read reader) c.args.before c.args.space.columns (left_at reader here)
    (slice_same reader.text.now here.at reader.stop)
    (ap is_mark (sym c.first_byte-byte.ensures) ∙ (sym c.is_mark.ensures ∙ c.if-is_mark.true)) in
    c.line_of_marks.ensures.first ∙ ap (λ (beginning : Beginning). Some beginning) (sym value)

pub returns-then-is_ascii_digit-clause-begins : goal.returns-then-is_ascii_digit-clause-begins
returns-then-is_ascii_digit-clause-begins c =
    let reader = c.args.self.now in
    let here = c.args.space.after in
    let value = after_digit (source_read reader) c.args.before c.args.space.columns (left_at reader here)
    (slice_same reader.text.now here.at reader.stop)
    (ap is_ascii_digit (sym c.first_byte-byte.ensures) ∙ (sym c.is_ascii_digit.ensures.value ∙
    c.if-is_ascii_digit.true)) in
    c.item.ensures ∙ ap (λ (beginning : Beginning). Some beginning) (sym value)

pub returns-else-is_ascii_digit-clause-begins : goal.returns-else-is_ascii_digit-clause-begins
returns-else-is_ascii_digit-clause-begins c =
    let reader = c.args.self.now in
    let here = c.args.space.after in
    let fence : is_fence_byte c.first_byte-byte.result ≡ false = sym c.is_fence_byte.ensures ∙
    c.if-is_fence_byte.false in
    let value = after_other (source_read reader) c.args.before c.args.space.columns (left_at reader here)
    (slice_same reader.text.now here.at reader.stop) c.first_byte-byte.result c.first_byte-byte.ensures
    (record {
      quote = grind (arith, nat_tests, c.if-byte-eq62.false);
      heading = grind (arith, nat_tests, c.if-byte-eq35.false);
      backtick = grind (arith, nat_tests, fence);
      tilde = grind (arith, nat_tests, fence);
      html = grind (arith, nat_tests, c.if-byte-eq60.false);
      footnote = grind (arith, nat_tests, c.if-byte-eq91.false);
    })
    (sym c.is_mark.ensures ∙ c.if-is_mark.false) (sym c.is_ascii_digit.ensures.value ∙ c.if-is_ascii_digit.false) in
    ap (λ (beginning : Beginning). Some beginning) (sym value)
