-- The parts of bytes are where the header says.
use Rattle.std.proofs.Common.{◌≡◌, ◌+◌, ◌*◌, ◌∙◌, ℕ, List, ap, sym, subst, drop, take, arith}
use Rattle.std.specs.Str.{IsUtf8}
use Rattle.markdown_records.specs.RecordView.{number_at}
use Rattle.markdown_records.proofs.FormLemmas.{header_facts, parts_say, wrong_pool}
use Rattle.markdown_records.proofs.form.form_of.Goals as goal

pub returns-in-Err : goal.returns-in-Err
returns-in-Err c =
    let b = c.args.bytes.now in
    let rest : c.split_at.result.1.now ≡ drop (24 + 24 * number_at b 8) b =
    c.split_at.ensures.back ∙ ap (λ (n : ℕ). drop (24 + 24 * n) b) c.number_at-count.ensures in
    wrong_pool c.args.source.now b (λ u. c.in-Err.ensures.cases.0 (subst IsUtf8 (sym rest) u))

pub split_at-requires-3 : goal.split_at-requires-3
split_at-requires-3 c =
    omega (
      arith,
      header_facts c.args.source.now c.args.bytes.now (sym c.has_header.ensures
          ∙ c.if-not-has_header.false),
      c.number_at-count.ensures,
      c.number_at-entries.ensures,
      c.split_at.ensures.front_len,
      c.split_at-2.ensures.back_len,
    )

pub returns : goal.returns
returns c =
    let b = c.args.bytes.now in
    let rest : c.split_at.result.1.now ≡ drop (24 + 24 * number_at b 8) b =
    c.split_at.ensures.back ∙ ap (λ (n : ℕ). drop (24 + 24 * n) b) c.number_at-count.ensures in
    let records : c.split_at-2.result.1.now ≡ drop 24 (take (24 + 24 * number_at b 8) b) =
    c.split_at-2.ensures.back
    ∙ ap (λ (xs : List ℕ). drop 24 xs)
    (c.split_at.ensures.front ∙ ap (λ (n : ℕ). take (24 + 24 * n) b) c.number_at-count.ensures) in
    parts_say c.args.source.now b _ _ _ c.if-bytes-lt-SIZE.false (sym c.has_header.ensures ∙ c.if-not-has_header.false)
    (subst IsUtf8 rest c.in-Ok.ensures.cases.1) (c.in-Ok.ensures.cases.0 ∙ rest)
    (c.split_at-3.ensures.front ∙ ap (λ (n : ℕ). take (24 * n) c.split_at-2.result.1.now) c.number_at-entries.ensures
    ∙ ap (λ (xs : List ℕ). take (24 * number_at b 12) xs) records)
    (c.split_at-3.ensures.back ∙ ap (λ (n : ℕ). drop (24 * n) c.split_at-2.result.1.now) c.number_at-entries.ensures
    ∙ ap (λ (xs : List ℕ). drop (24 * number_at b 12) xs) records)
