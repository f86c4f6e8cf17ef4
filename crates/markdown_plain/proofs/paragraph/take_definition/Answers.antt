-- An empty line; no definition; a definition.
use Rattle.std.proofs.Common.{◌≡◌, List, Some, sym, ap, ◌∙◌, arith, subst, refl, slice_get, option_copied}
use Rattle.markdown_plain.proofs.Names.{BuilderView, SourceLine, MayStep, IsParagraph}
use Rattle.markdown_lines.specs.HeldDefinitions.{IsDefinitionOf}
use Rattle.markdown_plain.proofs.ClosableLemmas.{MayDefine, cuts_of, may_define, last_next, may_pass, may_step_on}
use Rattle.markdown_plain.proofs.ClosableLemmas.{definition_moves, taken_to}
use Rattle.markdown_plain.proofs.DefinitionsLemmas.{IsSpanIn, are_sources, definition_span, sources_of, AreFilled}
use Rattle.markdown_plain.proofs.DefinitionsLemmas.{as_many, bracket_byte, filled_of, first_read, no_bracket}
use Rattle.markdown_plain.proofs.DefinitionsLemmas.{no_bracket_byte, no_line, none_there, takes_empty, takes_first}
use Rattle.markdown_plain.proofs.paragraph.take_definition.Goals.{After-step_to-2, In-Some}
use Rattle.markdown_plain.proofs.paragraph.take_definition.Goals as goal

pub returns-in_default-clause-over : goal.returns-in_default-clause-over
returns-in_default-clause-over c = λ _ sources is.
    no_line c.args.names c.args.placing.now.builder.text c.args.lines.now sources
    (sym c.first.ensures.value ∙ ap option_copied c.in_default.is) is.are

there : (c : In-Some) → slice_get c.args.lines.now 0 ≡ Some c.in-Some.first.now
there c = sym c.first.ensures.value ∙ ap option_copied c.in-Some.is

pub returns-then-first-clause-takes : goal.returns-then-first-clause-takes
returns-then-first-clause-takes c = λ sources is.
    takes_empty c.args.names c.args.placing.now.builder c.step_to.new.self.builder
    (there (goal.at.returns-then-first-clause-takes c).In-Some) c.if-first.true is
    (ap (λ (b : BuilderView). b.definitions) c.step_to.ensures.steps)

pub returns-then-ne-clause-over : goal.returns-then-ne-clause-over
returns-then-ne-clause-over c = λ _ sources is.
    let before = (goal.at.returns-then-ne-clause-over c).In-Some in
    no_bracket c.args.names (there before) (filled_of (there before) c.if-first.false is)
    (rw (c.byte_at.ensures, c.text-text.ensures) at
    (no_bracket_byte c.byte_at.result (sym c.ne.ensures ∙ c.if-ne.true)))

pub returns-in_default-2-clause-over : goal.returns-in_default-2-clause-over
returns-in_default-2-clause-over c = λ _ sources is.
    let before = (goal.at.returns-in_default-2-clause-over c).In-Some in
    let filled = filled_of (there before) c.if-first.false is in
    none_there c.args.names filled (rw c.in_default-2.is at (first_read c.args.names c.in_ok-found.field-0
    (there before) filled (rw (c.byte_at.ensures, c.text-text.ensures) at
    (bracket_byte c.byte_at.result (sym c.ne.ensures ∙ c.if-ne.false)))
    (rw c.text-text.ensures at c.in_ok-found.ensures)))

-- the definition that is taken, in so many lines
defined : (c : After-step_to-2) (sources : List SourceLine)
    → IsParagraph c.args.placing.now.builder.text c.args.lines.now sources
    → AreFilled c.args.placing.now.builder.text c.args.lines.now sources
    × IsDefinitionOf c.args.names c.args.placing.now.builder.text sources c.in-Some.first.now.start c.in-Some-2.found
    × (c.in-Some-2.found.lines ≡ c.min-taken.result)
defined c sources is =
    let lines = c.args.lines.now in let there = sym c.first.ensures.value ∙ ap option_copied c.in-Some.is in
    let filled = filled_of there c.if-first.false is in
    let first = rw c.in-Some-2.is at (first_read c.args.names c.in_ok-found.field-0 there filled
    (rw (c.byte_at.ensures, c.text-text.ensures) at (bracket_byte c.byte_at.result (sym c.ne.ensures ∙ c.if-ne.false)))
    (rw c.text-text.ensures at c.in_ok-found.ensures)) in
    (filled, first, omega (arith, as_many _ lines sources filled.are, first.lines, c.max.ensures, c.min-taken.ensures))

pub returns-clause-takes : goal.returns-clause-takes
returns-clause-takes c = λ sources is.
    let d = defined (goal.at.returns-clause-takes c).After-step_to-2 sources is in
    rw d.2 at (takes_first {old = c.args.placing.now.builder} {new = c.step_to-3.new.self.builder} d.0 d.1
    (rw (c.step_to-3.ensures.steps, c.in_ok-add_definition.ensures.adds, c.step_to-2.ensures.steps) refl))

pub step_to-requires : goal.step_to-requires
step_to-requires c =
    assumption (may_pass c.args.placing.now.builder c.args.lines.now c.in-Some.first.now c.requires
    (there (goal.at.step_to-requires c).In-Some) c.if-first.true)

pub returns-then-first-clause-lines : goal.returns-then-first-clause-lines
returns-then-first-clause-lines c =
    taken_to c.requires (there (goal.at.returns-then-first-clause-lines c).In-Some) (rw c.step_to.ensures.steps refl)

-- where the definition ends
span : (c : After-step_to-2)
    → IsSpanIn c.args.placing.now.builder.text c.args.lines.now c.in-Some-2.found.end c.min-taken.result
span c =
    let text = c.args.placing.now.builder.text in let lines = c.args.lines.now in
    let d = defined c (sources_of text lines) (record { inside = c.requires.inside; are = are_sources text lines }) in
    rw d.2 at (definition_span d.0 (cuts_of text c.args.placing.now.builder.at lines c.requires.order) d.1)

-- the calls that take it
defines : (c : After-step_to-2)
    → MayDefine c.args.placing.now.builder c.in-Some.first.now (span c).line c.in-Some-2.found.end
defines c = may_define c.requires (sym c.first.ensures.value ∙ ap option_copied c.in-Some.is) (span c)

pub add_definition-requires-clause-ahead : goal.add_definition-requires-clause-ahead
add_definition-requires-clause-ahead c =
    let d = defines (goal.at.add_definition-requires-clause-ahead c).After-step_to-2 in
    rw c.step_to-2.ensures.steps (d.low, d.boundary)

pub step_to-requires-3 : goal.step_to-requires-3
step_to-requires-3 c =
    let old = c.args.placing.now.builder in let before = (goal.at.step_to-requires-3 c).After-step_to-2 in
    let d = defines before in let now = c.add_definition.new.self.builder in
    let text : now.text ≡ old.text = rw (c.in_ok-add_definition.ensures.adds, c.step_to-2.ensures.steps) refl in
    let at = ap (λ (b : BuilderView). b.at) c.in_ok-add_definition.ensures.adds in
    subst (MayStep now) (sym (last_next _ (span before)))
    (may_step_on old.text c.in-Some-2.found.end (span before).line.next now text at d.high d.next d.left)

pub returns-clause-lines : goal.returns-clause-lines
returns-clause-lines c =
    let s = span (goal.at.returns-clause-lines c).After-step_to-2 in
    rw s.count_is (taken_to c.requires s.there
    (definition_moves c.args.placing.now.builder c.step_to-2.ensures.steps c.in_ok-add_definition.ensures.adds
    c.step_to-3.ensures.steps (last_next _ s)))
