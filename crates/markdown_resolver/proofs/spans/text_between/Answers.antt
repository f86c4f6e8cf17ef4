-- The text of a span is that over the bytes between its delimiters, by the prefix of the blocks above.
use Rattle.std.proofs.Common.{ℕ, List, length, ap, refl, ◌∙◌, subst}
use Rattle.std.proofs.Math.Path.{fun_ext}
use Rattle.markdown_base.specs.CowText.{text_of}
use Rattle.markdown_spans.proofs.SliceLemmas.{sliced_inside}
use Rattle.markdown_document.specs.Origins.{origin_of}
use Rattle.markdown_document.specs.PlacedNodes.{IsSlicedOf}
use Rattle.markdown_document.specs.ResolverStates.{above_cursor}
use Rattle.markdown_document.specs.Setting.{Setting, setting_of}
use Rattle.markdown_spans.specs.CodeText.{span_text, span_origin}
use Rattle.markdown_spans.specs.Finds.{prefix_below}
use Rattle.markdown_resolver.proofs.ChainPlaceLemmas.{prefix_is}
use Rattle.markdown_resolver.proofs.spans.text_between.Goals as goal

pub returns-clause-value : goal.returns-clause-value
returns-clause-value c = λ tree rules stands gfm.
    let s : Setting = setting_of c.args.place.now.text.now rules in
    let above = above_cursor s.text tree in
    let prefix = c.new-prefix.result in
    let table = c.args.place.now.in_table in
    let bytes = c.range.result.now in
    let same = fun_ext (prefix_is prefix c.args.place.now tree s c.new-prefix.ensures.containers
    c.new-prefix.ensures.footnotes gfm refl stands) in
    c.in_ok-span_text.ensures.value ∙ ap (λ (p : List ℕ → ℕ). span_text c.args.kind table p bytes) same
    ∙ ap (λ t. span_text c.args.kind t (prefix_below s above) bytes) stands.in_table
    ∙ ap (λ (b : List ℕ). span_text c.args.kind above.in_table (prefix_below s above) b) c.range.ensures.value

pub returns-clause-origin : goal.returns-clause-origin
returns-clause-origin c =
    c.in_ok-span_text.ensures.origin ∙ ap (λ (b : List ℕ). span_origin c.args.place.now.in_table b)
    c.range.ensures.value

pub returns-clause-slice : goal.returns-clause-slice
returns-clause-slice c =
    let text = c.in_ok-span_text.field-0 in
    sliced_inside c.args.place.now.text.now c.args.content.start c.args.content.end _ (origin_of text) (text_of text)
    c.requires.ordered
    (subst (λ (b : List ℕ). IsSlicedOf b 0 (length b) (origin_of text) (text_of text)) c.range.ensures.value
    c.in_ok-span_text.ensures.slice)
