-- A text that an item refers to is read and taken at once; other texts are slices of the source.
use Rattle.markdown_base.specs.declared.event.Event.TheVariants as step
use Rattle.std.proofs.Common.{[], ◌∷◌, refl}
use Rattle.markdown_base.specs.Event.{text, code, html, inline_html, footnote_reference}
use Rattle.markdown_base.specs.Item.{range_of}
use Rattle.markdown_document.specs.Origins.{origin_at}
use Rattle.markdown_document.specs.Document.{inlined}
use Rattle.markdown_inline.proofs.TakingLemmas.{is_from, no_start, opens_made, opens_slice, opens_span, text_at-read}
use Rattle.markdown_inline.proofs.TakingLemmas.{takes_text}
use Rattle.markdown_inline.proofs.bodies.leaf_event.Goals as goal
use Rattle.markdown_document.specs.Places.{origin_start}

pub returns-in-Text-clause-opens : goal.returns-in-Text-clause-opens
returns-in-Text-clause-opens c = rw c.in-Text.is
    (opens_slice c.args.text.now (range_of c.args.item) text step.Text c.slice_of.result
    c.slice_of.ensures (λ d. refl) (λ d. refl) (λ d. refl))

pub returns-in-Html-clause-opens : goal.returns-in-Html-clause-opens
returns-in-Html-clause-opens c = rw c.in-Html.is (opens_slice c.args.text.now (range_of c.args.item) html step.Html
    c.slice_of-in-Html.result c.slice_of-in-Html.ensures (λ d. refl) (λ d. refl) (λ d. refl))

pub returns-in-InlineHtml-clause-opens : goal.returns-in-InlineHtml-clause-opens
returns-in-InlineHtml-clause-opens c = rw c.in-InlineHtml.is
    (opens_slice c.args.text.now (range_of c.args.item) inline_html step.InlineHtml
    c.slice_of-in-InlineHtml.result c.slice_of-in-InlineHtml.ensures (λ d. refl) (λ d. refl) (λ d. refl))

pub returns-in-SynthesizeChar-clause-opens : goal.returns-in-SynthesizeChar-clause-opens
returns-in-SynthesizeChar-clause-opens c = record {
  origins = inlined ∷ [];
  begins = rw (c.in-SynthesizeChar.is, c.from.ensures.1) refl;
  texts = (c.from.ensures.0, tt);
  start = tt;
}

pub returns-in-SynthesizeText-clause-opens : goal.returns-in-SynthesizeText-clause-opens
returns-in-SynthesizeText-clause-opens c =
    rw c.in-SynthesizeText.is
    (opens_made c.args.text.now (range_of c.args.item) c.args.tables.now.cows c.in-SynthesizeText.ix.0 text
    step.Text c.take_cow.result
    (rw c.in-SynthesizeText.is at c.requires.can.named).text c.take_cow.ensures.taken (λ d. refl) (λ d. refl))

pub returns-in-SynthesizeText-clause-taken : goal.returns-in-SynthesizeText-clause-taken
returns-in-SynthesizeText-clause-taken c = rw c.in-SynthesizeText.is (takes_text _ c.args.tables.now c.take_cow.new.self
    c.in-SynthesizeText.ix refl c.take_cow.ensures.left)

pub returns-in-Code-clause-opens : goal.returns-in-Code-clause-opens
returns-in-Code-clause-opens c =
    rw c.in-Code.is
    (opens_span c.args.text.now (range_of c.args.item) c.args.tables.now.cows c.in-Code.ix.0 code step.Code
    c.take_cow-in-Code.result
    (rw c.in-Code.is at c.requires.can.named).text c.take_cow-in-Code.ensures.taken
    (rw c.in-Code.is at c.requires.can.slices) (λ d. refl) (λ d. refl) (λ d. refl))

pub returns-in-Code-clause-taken : goal.returns-in-Code-clause-taken
returns-in-Code-clause-taken c = rw c.in-Code.is
    (takes_text _ c.args.tables.now c.take_cow-in-Code.new.self c.in-Code.ix refl
    c.take_cow-in-Code.ensures.left)

pub returns-in-OwnedInlineHtml-clause-opens : goal.returns-in-OwnedInlineHtml-clause-opens
returns-in-OwnedInlineHtml-clause-opens c =
    rw c.in-OwnedInlineHtml.is
    (opens_made c.args.text.now (range_of c.args.item) c.args.tables.now.cows c.in-OwnedInlineHtml.ix.0 inline_html
    step.InlineHtml
    c.take_cow-in-OwnedInlineHtml.result (rw c.in-OwnedInlineHtml.is at c.requires.can.named).text
    c.take_cow-in-OwnedInlineHtml.ensures.taken (λ d. refl) (λ d. refl))

pub returns-in-OwnedInlineHtml-clause-taken : goal.returns-in-OwnedInlineHtml-clause-taken
returns-in-OwnedInlineHtml-clause-taken c = rw c.in-OwnedInlineHtml.is
    (takes_text _ c.args.tables.now c.take_cow-in-OwnedInlineHtml.new.self c.in-OwnedInlineHtml.ix refl
    c.take_cow-in-OwnedInlineHtml.ensures.left)

pub returns-in-FootnoteReference-clause-opens : goal.returns-in-FootnoteReference-clause-opens
returns-in-FootnoteReference-clause-opens c =
    rw c.in-FootnoteReference.is
    (opens_made c.args.text.now (range_of c.args.item) c.args.tables.now.cows c.in-FootnoteReference.ix.0
    footnote_reference
    step.FootnoteReference c.take_cow-in-FootnoteReference.result
    (rw c.in-FootnoteReference.is at c.requires.can.named).text
    c.take_cow-in-FootnoteReference.ensures.taken (λ d. refl) (λ d. refl))

pub returns-in-FootnoteReference-clause-taken : goal.returns-in-FootnoteReference-clause-taken
returns-in-FootnoteReference-clause-taken c = rw c.in-FootnoteReference.is
    (takes_text _ c.args.tables.now c.take_cow-in-FootnoteReference.new.self c.in-FootnoteReference.ix refl
    c.take_cow-in-FootnoteReference.ensures.left)

pub returns-in-Math-clause-opens : goal.returns-in-Math-clause-opens
returns-in-Math-clause-opens c =
    let cows = c.args.tables.now.cows in
    let ix = c.in-Math.ix.0 in
    let within = (rw c.in-Math.is at c.requires.can.named).text in
    let taken = c.take_cow-in-Math.ensures.taken in
    let read = text_at-read cows ix c.take_cow-in-Math.result within taken in
    record {
      origins = origin_at cows ix ∷ [];
      begins = rw (c.in-Math.is, c.math_event.ensures.event, read) refl;
      texts = rw (c.math_event.ensures.text, c.math_event.ensures.from c.args.text.now c.args.item.start) (
        is_from c.args.text.now (origin_start c.args.text.now c.args.item.start) c.args.item.end cows ix
            c.take_cow-in-Math.result within taken
            (rw c.in-Math.is at c.requires.can.slices),
        tt,
      );
      start = no_start c.args.text.now c.args.item.start c.args.item.end (origin_at cows ix ∷ []) c.math_event.result
          c.take_cow-in-Math.result
          c.math_event.ensures.text;
    }

pub returns-in-Math-clause-taken : goal.returns-in-Math-clause-taken
returns-in-Math-clause-taken c = rw c.in-Math.is
    (takes_text _ c.args.tables.now c.take_cow-in-Math.new.self c.in-Math.ix refl
    c.take_cow-in-Math.ensures.left)
