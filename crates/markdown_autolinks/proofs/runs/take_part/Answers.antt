-- A Text is taken whole, or cut.
use Rattle.std.proofs.Common.{◌≡◌, ◌∷◌, ◌++◌, [], ap, ◌∙◌, map, List}
use Rattle.std.proofs.lemmas.List.{map-append}
use Rattle.markdown_autolinks.specs.LinkedRuns.{RunTextView}
use Rattle.markdown_autolinks.specs.RunRead.{run_text_view}
use Rattle.markdown_autolinks.specs.declared.runs.RunText.{RunText}
use Rattle.markdown_autolinks.proofs.RunLemmas.{same_left, takes_cut, takes_whole}
use Rattle.markdown_autolinks.proofs.runs.take_part.Goals as goal

abbrev views : List RunText → List RunTextView
views texts = map run_text_view texts

pub taking-preserved : goal.taking-preserved
taking-preserved c =
    let text = c.in-Some.text in
    let before = same_left c.taking.invariant (ap views c.in-Some.ensures.items) in
    let pushed : views c.push.new.self.items ≡ views c.taking.part.items ++ run_text_view text ∷ [] =
    ap views c.in_ok-push-in-Some.ensures.items ∙ map-append run_text_view c.taking.part.items (text ∷ []) in
    rw pushed (takes_whole before c.taking-test.true c.if-length-left.true)

pub returns-else-length-left-clause-part : goal.returns-else-length-left-clause-part
returns-else-length-left-clause-part c =
    let before = same_left c.taking.invariant (ap views c.in-Some.ensures.items) in
    let cut = takes_cut before c.taking-test.true c.if-length-left.false in
    ap views c.in_ok-push-in-Some-2.ensures.items
    ∙ map-append run_text_view c.taking.part.items (c.cut_text.result.0 ∷ [])
    ∙ ap (λ (t : RunTextView). views c.taking.part.items ++ t ∷ []) c.cut_text.ensures.first ∙ cut.0

pub returns-else-length-left-clause-left : goal.returns-else-length-left-clause-left
returns-else-length-left-clause-left c =
    let before = same_left c.taking.invariant (ap views c.in-Some.ensures.items) in
    let cut = takes_cut before c.taking-test.true c.if-length-left.false in
    ap views c.in_ok-push_front-in-Some.ensures.items
    ∙ ap (λ (t : RunTextView). t ∷ views c.pop_front.new.self.items) c.cut_text.ensures.last ∙ cut.1
