-- The block is opened, filled with its line, moved to its first content byte, and closed if it ends there.
use Rattle.std.proofs.Common.{◌≡◌, ◌∙◌, ◌++◌, ◌∷◌, [], ap, arith, refl, sym}
use Rattle.markdown_plain.proofs.Names.{ends_html, BuilderView, Opens, OpenBlock, stepped}
use Rattle.markdown_plain.specs.CodeLines.{ends_html_at}
use Rattle.markdown_base.specs.declared.item.ItemBody.TheVariants as body
use Rattle.markdown_plain.proofs.ReadyLinesLemmas.{in_leaf, line_at, opened_from}
use Rattle.markdown_plain.proofs.LeafTreesLemmas.{rest_held, innermost_of_opened}
use Rattle.markdown_plain.proofs.LinedLeavesLemmas.{closed_if, closed_text, ends_with, html_alike, html_begins}
use Rattle.markdown_plain.proofs.LinedLeavesLemmas.{html_begun, rest_ordered, same_content}
use Rattle.markdown_plain.proofs.pass.Pass.open_html.Goals as goal

pub add_html_line-requires : goal.add_html_line-requires
add_html_line-requires c =
    let old = c.args.self.now.placing.builder in let at = c.args.position.at in
    line_at old.text at at c.args.line.next c.open_block.new.self.builder
    (opened_from old c.step_to.new.self.builder c.open_block.new.self.builder at body.HtmlBlock c.step_to.ensures.steps
    c.in_ok-open_block.ensures.opens refl) (omega arith) c.requires.0.begins.ahead.1 c.requires.0.next

pub begin_at_content-requires : goal.begin_at_content-requires
begin_at_content-requires c =
    let old = c.args.self.now.placing.builder in let filled = c.add_html_line.new.self.placing.builder in
    let block : OpenBlock = record { start = c.args.position.at; body = body.HtmlBlock } in
    let goes = c.in_ok-add_html_line.ensures.adds.goes_on in
    let opens : Opens (stepped old c.args.position.at) c.open_block.new.self.builder body.HtmlBlock =
    rw c.step_to.ensures.steps at c.in_ok-open_block.ensures.opens in
    let blocks : filled.blocks ≡ old.blocks ++ block ∷ [] = rw (goes, opens) refl in
    let text : filled.text ≡ old.text = rw (goes, opens) refl in
    record {
      block = block;
      innermost = rw blocks (innermost_of_opened old.blocks block);
      boundary = rw text c.requires.0.begins.ahead.1;
      content = record {
        content = c.requires.1.content;
        next = rw text c.requires.1.next;
        within = omega (arith, ap (λ (v : BuilderView). v.at) goes, c.requires.1.within);
      };
    }

pub end_html-requires : goal.end_html-requires
end_html-requires c =
    let old = c.args.self.now.placing.builder in let goes = c.in_ok-add_html_line.ensures.adds.goes_on in
    let opens : Opens (stepped old c.args.position.at) c.open_block.new.self.builder body.HtmlBlock =
    rw c.step_to.ensures.steps at c.in_ok-open_block.ensures.opens in
    let made = html_begins old c.open_block.new.self.builder _ c.begin_at_content.new.self.builder c.args.position.at _
    opens goes c.begin_at_content.ensures.begins in
    in_leaf c.begin_at_content.new.self.builder old.blocks (record { start = made.start; body = body.HtmlBlock })
    made.blocks (rw (c.begin_at_content.ensures.same, goes, opens) refl) refl

opens_html : (c : goal.After-end_html)
    → Opens (stepped c.args.self.now.placing.builder c.args.position.at) c.open_block.new.self.builder body.HtmlBlock
opens_html c = rw c.step_to.ensures.steps at c.in_ok-open_block.ensures.opens

begun_text : (c : goal.After-end_html) → c.begin_at_content.new.self.builder.text ≡ c.args.self.now.placing.builder.text
begun_text c = rw (c.begin_at_content.ensures.same, c.in_ok-add_html_line.ensures.adds.goes_on, opens_html c) refl

pub returns-clause-text : goal.returns-clause-text
returns-clause-text c = closed_text _ _ _ c.end_html.ensures.ends ∙ begun_text c

pub returns-clause-leaf : goal.returns-clause-leaf
returns-clause-leaf c = λ source start is content s frames inside b built syntax kind starts last.
    let old = c.args.self.now.placing.builder in let begun = c.begin_at_content.new.self.builder in
    let adds = c.in_ok-add_html_line.ensures.adds in
    let made = html_begins old c.open_block.new.self.builder c.add_html_line.new.self.placing.builder begun
    c.args.position.at _ (opens_html c) adds.goes_on c.begin_at_content.ensures.begins in
    let line = rest_held old.text c.args.position c.args.line source is.rest in
    let at = ap (λ (v : BuilderView). v.at) c.begin_at_content.ensures.same
    ∙ ends_with source adds line (omega (arith, rest_ordered is)) in
    let alike = ap (λ t. ends_html_at t c.args.position c.args.line c.args.kind) (begun_text c)
    ∙ html_alike c.args.kind is in
    closed_if s begun c.end_html.new.self.placing.builder frames inside b (ends_html c.args.kind source) (rw kind refl)
    (rw alike at c.end_html.ensures.ends)
    (html_begun s old c.open_block.new.self.builder c.add_html_line.new.self.placing.builder begun frames inside b
    c.args.kind _ source c.args.position.at built (opens_html c) adds line c.begin_at_content.ensures.same made
    (starts ∙ same_content old.text c.args.position.at start made.start content made.content) kind
    (last ∙ (is.rest.next ∙ sym at)))
