-- A text is cut before and after an ASCII byte.
use Rattle.std.proofs.Common.{◌∙◌, sym, ap, refl}
use Rattle.std.proofs.lemmas.Str.{IsCharBoundary-before_ascii}
use Rattle.std.specs.List.{position_or_len}
use Rattle.markdown_lines.specs.HeadingAttributes.{parts_words}
use Rattle.markdown_lines.proofs.HeadingAttributesLemmas.{one_word, word_cut, word_ends}
use Rattle.markdown_lines.proofs.LinesLemmas.{past_ascii}
use Rattle.markdown_lines.proofs.heading_attributes.first_word.Goals as goal

pub returns-then-length-text-clause-cut : goal.returns-then-length-text-clause-cut
returns-then-length-text-clause-cut c =
    one_word c.args.text.now
    (ap (position_or_len parts_words) (sym c.as_bytes.ensures.value) ∙ sym c.word_length-length.ensures.value
    ∙ c.if-length-text.true)

pub split_at-requires : goal.split_at-requires
split_at-requires c =
    let ends = word_ends c.args.text.now c.as_bytes.result.now c.word_length-length.result c.as_bytes.ensures.value
    c.word_length-length.ensures.value c.if-length-text.false in
    past_ascii c.args.text.now c.word_length-length.result c.utf8.text ends.0 ends.1

pub split_at-requires-2 : goal.split_at-requires-2
split_at-requires-2 c =
    let ends = word_ends c.args.text.now c.as_bytes.result.now c.word_length-length.result c.as_bytes.ensures.value
    c.word_length-length.ensures.value c.if-length-text.false in
    IsCharBoundary-before_ascii c.args.text.now c.word_length-length.result ends.0 ends.1

pub returns-clause-cut : goal.returns-clause-cut
returns-clause-cut c =
    let text = c.args.text.now in
    let ends = word_ends text c.as_bytes.result.now c.word_length-length.result c.as_bytes.ensures.value
    c.word_length-length.ensures.value c.if-length-text.false in
    word_cut text c.word_length-length.result _ c.split_at-2.result.0.now c.split_at.result.1.now
    (c.word_length-length.ensures.value ∙ ap (position_or_len parts_words) c.as_bytes.ensures.value)
    ends.0 refl c.split_at-2.ensures.front c.split_at.ensures.back
