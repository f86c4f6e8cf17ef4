-- A code block has the JSON of its kind; the others are by their variant.
use Rattle.std.proofs.Common.{◌++◌, ◌∙◌, ap, sym}
use Rattle.std.specs.String.{string_bytes}
use Rattle.std.proofs.lemmas.Result.{on_ok_weaker}
use Rattle.markdown_json.proofs.JsonPartsLemmas.{code_block_same}
use Rattle.markdown_json.proofs.tags.TagValue.push.Goals as goal

pub returns-in-CodeBlock-clause-ok : goal.returns-in-CodeBlock-clause-ok
returns-in-CodeBlock-clause-ok c =
    rw c.in-CodeBlock.is (on_ok_weaker c.push_variant-in-CodeBlock.result
    (λ h. h ∙ ap (λ x. string_bytes c.args.s.now ++ x) (sym (code_block_same c.in-CodeBlock.kind)))
    c.push_variant-in-CodeBlock.ensures.ok)

pub returns-in-FootnoteDefinition-clause-ok : goal.returns-in-FootnoteDefinition-clause-ok
returns-in-FootnoteDefinition-clause-ok c = rw c.in-FootnoteDefinition.is
    c.push_variant-in-FootnoteDefinition.ensures.ok

pub returns-in-Heading-clause-ok : goal.returns-in-Heading-clause-ok
returns-in-Heading-clause-ok c = rw c.in-Heading.is c.push_variant.ensures.ok

pub returns-in-Heading-clause-err : goal.returns-in-Heading-clause-err
returns-in-Heading-clause-err c = rw c.in-Heading.is c.push_variant.ensures.err

pub returns-in-List-clause-ok : goal.returns-in-List-clause-ok
returns-in-List-clause-ok c = rw c.in-List.is c.push_variant-in-List.ensures.ok

pub returns-in-List-clause-err : goal.returns-in-List-clause-err
returns-in-List-clause-err c = rw c.in-List.is c.push_variant-in-List.ensures.err

pub returns-in-Table-clause-ok : goal.returns-in-Table-clause-ok
returns-in-Table-clause-ok c = rw c.in-Table.is c.push_variant-in-Table.ensures.ok

pub returns-in-Table-clause-err : goal.returns-in-Table-clause-err
returns-in-Table-clause-err c = rw c.in-Table.is c.push_variant-in-Table.ensures.err

pub returns-in-FootnoteDefinition-clause-err : goal.returns-in-FootnoteDefinition-clause-err
returns-in-FootnoteDefinition-clause-err c =
    rw c.in-FootnoteDefinition.is c.push_variant-in-FootnoteDefinition.ensures.err
