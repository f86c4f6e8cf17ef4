-- The content of the heading is what is left of the line from there on.
use Rattle.std.proofs.Common.{◌≡◌, ◌+◌, ◌-◌, Bool, true, false, List, ℕ, ◌∙◌, refl, sym, ap, arith, slice_range}
use Rattle.std.specs.Prelude.{if◌then◌else◌}
use Rattle.markdown_lines.specs.HeadingAttributes.{attributed}
use Rattle.markdown_lines.proofs.PositionsLemmas.{rest_of_part}
use Rattle.markdown_lines.proofs.line_reader.LineReader.whole_heading.Goals as goal

then_first : {A : Type 0} (test : Bool) (x y : A) → test ≡ true → x ≡ (if test then x else y)
then_first true x y h = refl
then_first false x y h = cc

pub returns-then-self : goal.returns-then-self
returns-then-self c =
    let reader = c.args.self.now in
    let heading = c.args.heading in
    let at = c.args.here.at in
    let place : at + (heading.from - at) ≡ heading.from = omega (arith, c.requires) in
    let content = sym (ap (λ n. slice_range reader.text.now n reader.stop) place)
    ∙ sym (rest_of_part reader.text.now at reader.stop (heading.from - at)) in
    c.with_attributes.ensures
    ∙ (ap (λ (bytes : List ℕ). attributed bytes heading) content
    ∙ then_first reader.syntax.attributes _ heading c.if-self.true)
