-- A line that is taken, and a line that is none of a definition.
use Rattle.std.proofs.Common.{◌≡◌, ◌+◌, ◌-◌, ◌<◌, List, arith, drop, refl, sym, ◌∙◌, length, [], false, length-drop}
use Rattle.std.proofs.Common.{take_all, Some, slice_get, ◌==◌}
use Rattle.markdown_plain.proofs.Names.{nat_tests, slice_get_within, divided, SourceLine, IsParagraph}
use Rattle.std.proofs.lemmas.Option.{slice_get_read}
use Rattle.markdown_builder.specs.BuilderView.{Definition, nothing_made}
use Rattle.markdown_lines.specs.HeldDefinitions.{IsFirstDefinition}
use Rattle.markdown_plain.specs.TakenDefinitions.{TakesDefinitions}
use Rattle.markdown_plain.proofs.DefinitionsLemmas.{AreFilled, as_many, bracket_byte, filled_of, first_empty}
use Rattle.markdown_plain.proofs.DefinitionsLemmas.{lines_left, next_line, no_bracket, no_bracket_byte, none_left}
use Rattle.markdown_plain.proofs.DefinitionsLemmas.{none_there, takes_empty, takes_first, takes_more, first_read}
use Rattle.markdown_plain.proofs.DefinitionsLemmas.{takes_nothing}
use Rattle.markdown_plain.proofs.paragraph.are_definitions.Goals.{In-Some, In_ok-found}
use Rattle.markdown_plain.proofs.paragraph.are_definitions.Goals as goal

pub definitions-init : goal.definitions-init
definitions-init c = λ sources is. (omega arith, ([], takes_nothing c.args.names _ c.args.lines.now sources is))

there : (c : In-Some) → slice_get c.args.lines.now c.definitions.taken ≡ Some c.in-Some.first.now
there c = slice_get_read c.args.lines.now _ c.definitions.taken c.in-Some.first.now refl c.in-Some.ensures.lookup.3.0
    c.in-Some.ensures.lookup.1

next : (c : In-Some) → slice_get (drop c.definitions.taken c.args.lines.now) 0 ≡ Some c.in-Some.first.now
next c = next_line c.args.lines.now c.definitions.taken c.in-Some.first.now (there c)

pub definitions-preserved-then-first : goal.definitions-preserved-then-first
definitions-preserved-then-first c = λ sources is.
    let now = c.definitions.invariant sources is in
    let next = next (goal.at.definitions-preserved-then-first c).In-Some in
    let empty = first_empty next (omega (arith, c.if-first.true)) now.1.1.left in
    let old = record (nothing_made c.args.text.now) { definitions = now.1.0 } in
    let more = takes_empty c.args.names old old next empty now.1.1.left refl in
    let count : 1 + c.definitions.taken ≡ c.definitions.taken + 1 = omega arith in
    (omega (arith, now.0), (_, rw count at (takes_more refl now.1.1 more)))

filled : (c : In-Some) (sources : List SourceLine) → IsParagraph c.args.text.now c.args.lines.now sources
    → c.in-Some.first.now.start < c.in-Some.first.now.stop → AreFilled c.args.text.now
    (drop c.definitions.taken c.args.lines.now) (drop c.definitions.taken sources)
filled c sources is some =
    filled_of (next c) (λ e. omega (arith, some, e)) (c.definitions.invariant sources is).1.1.left

-- a line that begins no definition is left
over : (c : In-Some) (sources : List SourceLine) → IsParagraph c.args.text.now c.args.lines.now sources
    → divided c.args.names c.args.text.now (drop c.definitions.taken sources)
    ≡ record { definitions = []; lines = drop c.definitions.taken sources }
    → false ≡ (length (divided c.args.names c.args.text.now sources).lines == 0)
over c sources is none =
    let left = lines_left (c.definitions.invariant sources is).1 none in
    let less = slice_get_within c.args.lines.now c.definitions.taken c.in-Some.first.now (there c) in
    grind (arith, nat_tests, left, less)

pub returns-then-ne : goal.returns-then-ne
returns-then-ne c = λ sources is.
    let before = (goal.at.returns-then-ne c).In-Some in
    over before sources is (no_bracket c.args.names (next before)
    (filled before sources is (omega (arith, c.if-first.false)))
    (rw c.byte_at.ensures at (no_bracket_byte c.byte_at.result (sym c.ne.ensures ∙ c.if-ne.true))))

-- what is read at the next line
read : (c : In_ok-found) (sources : List SourceLine)
    → slice_get (drop c.definitions.taken c.args.lines.now) 0 ≡ Some c.in-Some.first.now
    → AreFilled c.args.text.now (drop c.definitions.taken c.args.lines.now) (drop c.definitions.taken sources)
    → IsFirstDefinition c.args.names c.args.text.now (drop c.definitions.taken sources) c.in-Some.first.now.start
    c.in_ok-found.field-0
read c sources next filled =
    let lines = c.args.lines.now in let taken = c.definitions.taken in
    first_read c.args.names c.in_ok-found.field-0 next filled
    (rw c.byte_at.ensures at (bracket_byte c.byte_at.result (sym c.ne.ensures ∙ c.if-ne.false)))
    (rw (take_all (length lines - taken) (drop taken lines) (omega (arith, length-drop taken lines))) at
    c.in_ok-found.ensures)

pub returns-in-None : goal.returns-in-None
returns-in-None c = λ sources is.
    let before = (goal.at.returns-in-None c).In-Some in
    let filled = filled before sources is (omega (arith, c.if-first.false)) in
    over before sources is (none_there c.args.names filled (rw c.in-None.is at
    (read (goal.at.returns-in-None c).In_ok-found sources (next before) filled)))

pub definitions-preserved : goal.definitions-preserved
definitions-preserved c = λ sources is.
    let before = (goal.at.definitions-preserved c).In-Some in let taken = c.definitions.taken in
    let now = c.definitions.invariant sources is in
    let filled = filled before sources is (omega (arith, c.if-first.false)) in
    let first = rw c.in-Some-2.is at
    (read (goal.at.definitions-preserved c).In_ok-found sources (next before) filled) in
    let less = slice_get_within c.args.lines.now taken c.in-Some.first.now (there before) in
    let many = as_many _ _ _ filled.are in let left = length-drop taken c.args.lines.now in
    let count : c.in-Some-2.found.lines + taken ≡ c.saturating_add-taken.result =
    omega (arith, first.lines, many, less, left, c.max.ensures, c.saturating_add-taken.ensures) in
    let old = record (nothing_made c.args.text.now) { definitions = now.1.0 } in
    let more : (ds : List Definition) × TakesDefinitions c.args.names old (record old { definitions = ds })
    (drop taken c.args.lines.now) (drop taken sources) c.in-Some-2.found.lines =
    (_, takes_first filled first refl) in
    (omega (arith, now.0, first.lines, count), (more.0, rw count at (takes_more refl now.1.1 more.1)))

pub returns-after-definitions : goal.returns-after-definitions
returns-after-definitions c = λ sources is.
    let now = c.definitions.invariant sources is in
    let left = lines_left now.1 (none_left now.1.1 (omega (arith, now.0, c.definitions-test.false))) in
    grind (arith, nat_tests, left, now.0, c.definitions-test.false)

pub returns-in_default : goal.returns-in_default
returns-in_default c = λ sources is.
    let now = c.definitions.invariant sources is in let most = c.in_default.ensures.lookup.3 in
    let left = lines_left now.1 (none_left now.1.1 most) in grind (arith, nat_tests, left, most)
