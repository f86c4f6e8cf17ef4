-- One definition more, and no line left.
use Rattle.std.proofs.Common.{◌≡◌, List, ap, arith, ◌+◌, ◌-◌, drop, length, slice_range, length-drop, take_all}
use Rattle.markdown_plain.proofs.Names.{BuilderView, SourceLine, IsParagraph}
use Rattle.markdown_plain.specs.ParagraphSteps.{TakesLines}
use Rattle.markdown_plain.specs.TakenDefinitions.{TakesDefinitions}
use Rattle.markdown_plain.proofs.DefinitionsLemmas.{is_divided, none_left, takes_more}
use Rattle.markdown_plain.proofs.ClosableLemmas.{more_taken}
use Rattle.markdown_plain.proofs.paragraph.take_definitions.Goals.{In_ok-more}
use Rattle.markdown_plain.proofs.paragraph.take_definitions.Goals as goal

-- the lines that are left
left : (c : In_ok-more) → slice_range c.args.lines.now c.definitions.taken (length c.args.lines.now)
    ≡ drop c.definitions.taken c.args.lines.now
left c =
    let lines = c.args.lines.now in
    take_all (length lines - c.definitions.taken) (drop c.definitions.taken lines)
    (omega (arith, length-drop c.definitions.taken lines))

same_text : (c : In_ok-more) → c.definitions.placing.builder.text ≡ c.args.placing.now.builder.text
same_text c = ap (λ (b : BuilderView). b.text) c.definitions.invariant.lines.moves

paragraph_left : (c : In_ok-more) (sources : List SourceLine)
    → IsParagraph c.args.placing.now.builder.text c.args.lines.now sources
    → IsParagraph c.definitions.placing.builder.text
    (slice_range c.args.lines.now c.definitions.taken (length c.args.lines.now)) (drop c.definitions.taken sources)
paragraph_left c sources is = rw (left c, same_text c) (c.definitions.invariant.takes sources is).left

lines_taken : (c : In_ok-more) → TakesLines c.args.placing.now.builder c.take_definition.new.placing.builder
    c.args.lines.now (c.in_ok-more.more + c.definitions.taken)
lines_taken c = more_taken c.definitions.invariant.lines (rw (left c) at c.in_ok-more.ensures.lines)

definitions_taken : (c : In_ok-more) (sources : List SourceLine)
    → IsParagraph c.args.placing.now.builder.text c.args.lines.now sources
    → TakesDefinitions c.args.names c.args.placing.now.builder c.take_definition.new.placing.builder c.args.lines.now
    sources (c.in_ok-more.more + c.definitions.taken)
definitions_taken c sources is =
    takes_more (same_text c) (c.definitions.invariant.takes sources is)
    (rw (left c) at (c.in_ok-more.ensures.takes (drop c.definitions.taken sources) (paragraph_left c sources is)))

pub definitions-preserved : goal.definitions-preserved
definitions-preserved c =
    let before = (goal.at.definitions-preserved c).In_ok-more in
    let count : c.in_ok-more.more + c.definitions.taken ≡ c.saturating_add-taken.result =
    omega (arith, (lines_taken before).within, c.saturating_add-taken.ensures) in
    rw (← count) (record { lines = lines_taken before; takes = definitions_taken before })

pub returns-after-definitions-clause-divides : goal.returns-after-definitions-clause-divides
returns-after-definitions-clause-divides c = λ sources is.
    let takes = c.definitions.invariant.takes sources is in
    is_divided takes (none_left takes (omega (arith, c.definitions-test.false)))

-- nothing more was taken
none_more : (c : goal.Then-more-eq0) → c.in_ok-more.more + c.definitions.taken ≡ c.definitions.taken
none_more c = omega (arith, c.if-more-eq0.true)

pub returns-then-more-eq0-clause-lines : goal.returns-then-more-eq0-clause-lines
returns-then-more-eq0-clause-lines c =
    rw (none_more c) at (lines_taken (goal.at.returns-then-more-eq0-clause-lines c).In_ok-more)

pub returns-then-more-eq0-clause-divides : goal.returns-then-more-eq0-clause-divides
returns-then-more-eq0-clause-divides c = λ sources is.
    let before = (goal.at.returns-then-more-eq0-clause-divides c).In_ok-more in
    is_divided (rw (none_more c) at (definitions_taken before sources is)) (rw (same_text before) at
    (c.in_ok-more.ensures.over (omega (arith, c.if-more-eq0.true)) _ (paragraph_left before sources is)))
