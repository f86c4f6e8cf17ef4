-- A text, a link or alignments that a Start refers to are read and taken at once.
use Rattle.std.proofs.Common.{refl}
use Rattle.markdown_document.specs.Tables.{tables_of}
use Rattle.markdown_inline.proofs.TakingLemmas.{text_at-read, alignments_at-read, heading_named, some_container}
use Rattle.markdown_inline.proofs.TakingLemmas.{container_shape}
use Rattle.markdown_inline.proofs.TakingLemmas.{takes_text, takes_link, takes_alignments, takes_nothing}
use Rattle.markdown_inline.proofs.bodies.start_tag.Goals as goal
use Rattle.markdown_inline.specs.WalkSteps.{container_of}

pub heading_start-requires : goal.heading_start-requires
heading_start-requires c = heading_named (tables_of c.args.tables.now) c.in-Heading.level c.in-Heading.named
    (rw c.in-Heading.is at c.requires.named)

pub returns-in-FencedCodeBlock-clause-tag : goal.returns-in-FencedCodeBlock-clause-tag
returns-in-FencedCodeBlock-clause-tag c over = rw (
  c.in-FencedCodeBlock.is,
  text_at-read c.args.tables.now.cows c.in-FencedCodeBlock.ix.0 c.take_cow.result
      (rw c.in-FencedCodeBlock.is at c.requires.named).text c.take_cow.ensures.taken,
) refl

pub returns-in-FencedCodeBlock-clause-taken : goal.returns-in-FencedCodeBlock-clause-taken
returns-in-FencedCodeBlock-clause-taken c = rw c.in-FencedCodeBlock.is
    (takes_text _ c.args.tables.now c.take_cow.new.self c.in-FencedCodeBlock.ix refl c.take_cow.ensures.left)

pub returns-in-FootnoteDefinition-clause-tag : goal.returns-in-FootnoteDefinition-clause-tag
returns-in-FootnoteDefinition-clause-tag c over = rw (
  c.in-FootnoteDefinition.is,
  text_at-read c.args.tables.now.cows c.in-FootnoteDefinition.ix.0 c.take_cow-in-FootnoteDefinition.result
      (rw c.in-FootnoteDefinition.is at c.requires.named).text c.take_cow-in-FootnoteDefinition.ensures.taken,
) refl

pub returns-in-FootnoteDefinition-clause-taken : goal.returns-in-FootnoteDefinition-clause-taken
returns-in-FootnoteDefinition-clause-taken c = rw c.in-FootnoteDefinition.is
    (takes_text _ c.args.tables.now c.take_cow-in-FootnoteDefinition.new.self c.in-FootnoteDefinition.ix refl
    c.take_cow-in-FootnoteDefinition.ensures.left)

pub returns-in-Table-clause-tag : goal.returns-in-Table-clause-tag
returns-in-Table-clause-tag c over = rw (
  c.in-Table.is,
  alignments_at-read c.args.tables.now.alignments c.in-Table.ix.0 c.take_alignment.result
      (rw c.in-Table.is at c.requires.named).alignments c.take_alignment.ensures.taken,
) refl

pub returns-in-Table-clause-taken : goal.returns-in-Table-clause-taken
returns-in-Table-clause-taken c = rw c.in-Table.is
    (takes_alignments _ c.args.tables.now c.take_alignment.new.self c.in-Table.ix refl
    c.take_alignment.ensures.left)

pub returns-in-Link-clause-tag : goal.returns-in-Link-clause-tag
returns-in-Link-clause-tag c over = rw (c.in-Link.is, c.link_tag.ensures.tag, c.link_tag.ensures.titles) refl

pub returns-in-Link-clause-from : goal.returns-in-Link-clause-from
returns-in-Link-clause-from c source start end slices = c.link_tag.ensures.from source start end
    (rw c.in-Link.is at slices)

pub returns-in-Link-clause-taken : goal.returns-in-Link-clause-taken
returns-in-Link-clause-taken c = rw c.in-Link.is (takes_link _ c.args.tables.now c.link_tag.new.tables c.in-Link.ix refl
    c.link_tag.ensures.left)

pub returns-in-Image-clause-tag : goal.returns-in-Image-clause-tag
returns-in-Image-clause-tag c over = rw (c.in-Image.is, c.image_tag.ensures.tag, c.image_tag.ensures.titles) refl

pub returns-in-Image-clause-from : goal.returns-in-Image-clause-from
returns-in-Image-clause-from c source start end slices = c.image_tag.ensures.from source start end
    (rw c.in-Image.is at slices)

pub returns-in-Image-clause-taken : goal.returns-in-Image-clause-taken
returns-in-Image-clause-taken c = rw c.in-Image.is
    (takes_link _ c.args.tables.now c.image_tag.new.tables c.in-Image.ix refl
    c.image_tag.ensures.left)

pub returns-in_default-clause-tag : goal.returns-in_default-clause-tag
returns-in_default-clause-tag c over =
    container_shape (tables_of c.args.tables.now) over c.args.body _ (container_of c.args.body) refl
    (some_container c.args.body c.requires.start c.in_default.not-Heading c.in_default.not-FencedCodeBlock
    c.in_default.not-FootnoteDefinition c.in_default.not-Table c.in_default.not-Link c.in_default.not-Image)
    c.container_tag.ensures.tag _ c.container_tag.ensures.titles

pub returns-in_default-clause-from : goal.returns-in_default-clause-from
returns-in_default-clause-from c source start end slices = c.container_tag.ensures.from source start end

pub returns-in_default-clause-taken : goal.returns-in_default-clause-taken
returns-in_default-clause-taken c = takes_nothing c.args.body c.args.tables.now
