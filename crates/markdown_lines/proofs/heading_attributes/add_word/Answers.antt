-- After an ASCII byte another character begins.
use Rattle.std.proofs.Common.{◌≡◌, ℕ, List, get_or, ◌∙◌, sym, ap, arith}
use Rattle.markdown_lines.proofs.LinesLemmas.{past_ascii}
use Rattle.markdown_lines.proofs.heading_attributes.add_word.Goals as goal

pub split_at-requires : goal.split_at-requires
split_at-requires c =
    let mark : get_or c.args.word.now 0 0 ≡ 35 =
    ap (λ (bytes : List ℕ). get_or bytes 0 0) (sym c.as_bytes.ensures.value) ∙ c.in-35.is in
    past_ascii c.args.word.now 0 c.utf8.word (omega (arith, c.if-word-lt2.false)) (omega (arith, mark))

pub split_at-requires-in-46 : goal.split_at-requires-in-46
split_at-requires-in-46 c =
    let mark : get_or c.args.word.now 0 0 ≡ 46 =
    ap (λ (bytes : List ℕ). get_or bytes 0 0) (sym c.as_bytes.ensures.value) ∙ c.in-46.is in
    past_ascii c.args.word.now 0 c.utf8.word (omega (arith, c.if-word-lt2.false)) (omega (arith, mark))
