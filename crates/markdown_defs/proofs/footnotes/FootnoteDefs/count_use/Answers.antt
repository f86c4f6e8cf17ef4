-- The footnote that was lent has one more use, and so has each name with its folding.
use Rattle.std.proofs.Common.{◌≡◌, ◌∙◌, ap, Some, cond}
use Rattle.std.specs.Str.{bytes_eq}
use Rattle.std.specs.Option.{option_map}
use Rattle.markdown_defs.specs.Folding.{case_folding, folded_text}
use Rattle.markdown_defs.specs.Footnotes.{footnote_at}
use Rattle.markdown_defs.specs.FootnoteCounts.{used_once_more}
use Rattle.markdown_defs.specs.declared.footnotes.FootnoteDef.{FootnoteDef}
use Rattle.markdown_defs.proofs.FoldingLemmas.{encoded_eq}
use Rattle.markdown_defs.proofs.footnotes.FootnoteDefs.count_use.Goals as goal

pub returns-clause-counted : goal.returns-clause-counted
returns-clause-counted c = λ other.
    let text : c.as_str.result.now ≡ folded_text c.args.name.now = c.as_str.ensures.value
    ∙ c.in_ok-folded.ensures.folded in
    let counted : FootnoteDef = record { use_count = c.saturating_add-footnote.result } in
    let sum : counted ≡ used_once_more c.in-Some.footnote.now = ap (λ n. record { use_count = n })
    c.saturating_add-footnote.ensures in
    let value : Some counted ≡ option_map used_once_more (footnote_at c.args.self.now c.args.name.now) = ap Some sum
    ∙ ap (option_map used_once_more) (rw text at c.in-Some.ensures.found) in
    let after = rw text at ((rw c.in-Some.is at (c.lend.follows.holds counted)) (folded_text other)) in
    after
    ∙ ap (λ s. cond (bytes_eq (folded_text c.args.name.now) (folded_text other)) s (footnote_at c.args.self.now other))
    value
    ∙ ap (λ b. cond b (option_map used_once_more (footnote_at c.args.self.now c.args.name.now))
    (footnote_at c.args.self.now other))
    (encoded_eq (case_folding c.args.name.now) (case_folding other))
