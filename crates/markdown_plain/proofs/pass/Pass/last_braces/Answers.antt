-- The braces are those of the last line of the definition.
use Rattle.std.proofs.Common.{◌≡◌, ◌∙◌, refl, rules, None}
use Rattle.markdown_plain.proofs.DefinitionsLemmas.{as_many}
use Rattle.markdown_plain.proofs.ParagraphTreesLemmas.{heading_last, none_read, braces_within}
use Rattle.markdown_plain.proofs.pass.Pass.last_braces.Goals.{then-is_none-via-then-is_none}
use Rattle.markdown_plain.proofs.pass.Pass.last_braces.Goals.{then-is_none-via-else-is_none+then-not-self}
use Rattle.std.proofs.lemmas.Option.{same_Some}
use Rattle.markdown_plain.proofs.pass.Pass.last_braces.Goals as goal

pub returns-then-is_none-clause-value : goal.returns-then-is_none-clause-value
returns-then-is_none-clause-value c = λ sources from are less. elim c.then-is_none.branch [
  | then-is_none-via-then-is_none w ↦ let none : c.args.heading ≡ None = search rules in rw none refl
  | then-is_none-via-else-is_none+then-not-self w ↦ none_read c.args.self.now.syntax c.args.heading _ (search rules)
]

pub returns-clause-value : goal.returns-clause-value
returns-clause-value c = λ sources from are less.
    rw (c.braces_at.ensures, c.text.ensures) (heading_last c.args.self.now.syntax c.args.heading
    c.args.self.now.placing.builder.text c.args.self.now.lines.items sources from c.in_ok-last.last.now
    c.if-is_none.ensures c.if-not-self.false are (as_many _ _ _ are) less
    (rw c.deref.ensures.value at c.in_ok-last.ensures.value))

pub returns-clause-fits : goal.returns-clause-fits
returns-clause-fits c = λ other found.
    let there = rw c.deref.ensures.value at c.in_ok-last.ensures.value in
    rw (← same_Some c.in_ok-last.last.now other (there ∙ found), c.braces_at.ensures, c.text.ensures)
    (braces_within c.args.self.now.placing.builder.text c.in_ok-last.last.now (rw c.text.ensures at c.text.utf8))
