-- What is left after the definitions is placed, and where nothing is left, no tree is added.
use Rattle.std.proofs.Common.{ap, length-drop, refl, ◌≡◌, ◌∙◌, ◌<◌, ◌≤◌, rules, arith, length, List, true, false}
use Rattle.std.proofs.Common.{nat_lt}
use Rattle.markdown_plain.proofs.Names.{nat_tests, SourceLine, entity_names, IsParagraph, around_innermost, source_of}
use Rattle.markdown_plain.proofs.ParagraphsInPlaceLemmas.{HasEnded, nothing_ended, placed_ended, ended_is_placed}
use Rattle.markdown_plain.proofs.ParagraphsInPlaceLemmas.{headed_block, headed_last, nothing_left}
use Rattle.markdown_plain.proofs.DefinitionsLemmas.{as_many}
use Rattle.markdown_plain.specs.Paragraphs.{IsDivided, divided_of}
use Rattle.markdown_plain.proofs.pass.Pass.end_paragraph.Goals.{then-left+in_ok-place_paragraph, else-left}
use Rattle.markdown_plain.proofs.pass.Pass.end_paragraph.Goals as goal

divides : (c : goal.After-clear) (sources : List SourceLine) → IsParagraph c.args.self.now.placing.builder.text
    c.args.self.now.lines.items sources → IsDivided (entity_names c.args.self.now.syntax)
    c.args.self.now.placing.builder c.take_definitions.new.placing.builder sources c.in_ok-taken.taken
divides c sources is =
    rw c.entity_names-names.ensures at (c.in_ok-taken.ensures.divides sources (rw c.deref.ensures.value is))

ended : (c : goal.After-clear) → HasEnded c.args.self.now c.args.heading c.in_ok-taken.taken
    (nat_lt c.in_ok-taken.taken c.len.result) c.take_definitions.new.placing.builder c.if-left.self.placing.builder
ended c =
    let pass = c.args.self.now in let heading = c.args.heading in let taken = c.in_ok-taken.taken in
    let left = nat_lt taken c.len.result in let defined = c.take_definitions.new.placing in
    let count : c.len.result ≡ length pass.lines.items = search rules in
    let takes = rw c.deref.ensures.value at c.in_ok-taken.ensures.lines in
    elim c.if-left.branch [
      | then-left+in_ok-place_paragraph w ↦
          let less : taken < length pass.lines.items = search rules in
          let is : left ≡ true = grind (arith, nat_tests, less, count) in let made = w.in_ok-place_paragraph.ensures in
          rw (w.self-is, is) (placed_ended defined c.requires.outside less takes made.placed made.texts made.tree)
      | else-left w ↦
          let most : length pass.lines.items ≤ taken = search rules in
          let is : left ≡ false = grind (arith, nat_tests, most, count) in rw (w.self-is, is) (nothing_ended takes most)
    ]

pub returns-clause-ends : goal.returns-clause-ends
returns-clause-ends c = (ended c).ends

pub returns-clause-left : goal.returns-clause-left
returns-clause-left c = λ sources is.
    let pass = c.args.self.now in let count : c.len.result ≡ length pass.lines.items = search rules in
    let many = as_many pass.placing.builder.text pass.lines.items sources is.are in
    let left = length-drop c.in_ok-taken.taken sources in
    grind (arith, nat_tests, many, count, left, ap length (divides c sources is).lines)

pub returns-clause-frame : goal.returns-clause-frame
returns-clause-frame c = λ s frames inside b sources holds syntax.
    let pass = c.args.self.now in let heading = c.args.heading in let left = nat_lt c.in_ok-taken.taken c.len.result in
    let whole : s ≡ source_of pass = rw (holds.built.text, ← syntax) refl in let held = rw whole at holds in
    let divided = divides c sources held.lines in let is = ended c in
    rw whole (ended_is_placed pass c.if-left.self.placing.builder frames inside b sources left heading held
    (λ none. nothing_left (divided_of pass sources).lines left none (returns-clause-left c sources held.lines))
    (record {
      ends = is.ends;
      shown = is.tree sources (around_innermost frames).marked (headed_block b sources heading) held.lines
          divided.lines held.task held.from (headed_last pass b sources heading held.last);
      texts = is.texts;
      definitions = is.definitions ∙ divided.definitions;
    }))
