-- Each arm copies the texts of its variant.
use Rattle.std.proofs.Common.{rules}
use Rattle.markdown_base.proofs.tag.Tag.try_clone.Goals as goal
use Rattle.markdown_base.proofs.tag.Tag.try_clone.Goals.{in-Heading+in_ok-clone_heading-in-Heading, in-BlockQuote}
use Rattle.markdown_base.proofs.tag.Tag.try_clone.Goals.{in-CodeBlock+in_ok-try_clone-in-CodeBlock, in-List}
use Rattle.markdown_base.proofs.tag.Tag.try_clone.Goals.{in-FootnoteDefinition+in_ok-try_clone-in-FootnoteDefinition}
use Rattle.markdown_base.proofs.tag.Tag.try_clone.Goals.{in-Table+in_ok-clone-in-Table, in-Link+in_ok-dest_url-in-Link}
use Rattle.markdown_base.proofs.tag.Tag.try_clone.Goals.{in-Image+in_ok-dest_url-in-Image, in-MetadataBlock}
use Rattle.markdown_base.proofs.tag.Tag.try_clone.Goals.{in-Paragraph, in-HtmlBlock, in-Item, in-DefinitionList}
use Rattle.markdown_base.proofs.tag.Tag.try_clone.Goals.{in-DefinitionListTitle, in-DefinitionListDefinition}
use Rattle.markdown_base.proofs.tag.Tag.try_clone.Goals.{in-TableHead, in-TableRow, in-TableCell, in-Emphasis}
use Rattle.markdown_base.proofs.tag.Tag.try_clone.Goals.{in-Strong, in-Strikethrough, in-Superscript, in-Subscript}

pub returns-clause-slices : goal.returns-clause-slices
returns-clause-slices c =
    elim c.match-self.branch [
      | in-Heading+in_ok-clone_heading-in-Heading w ↦ search rules
      | in-BlockQuote w ↦ rw (w.in-BlockQuote.is, w.result-is) tt
      | in-CodeBlock+in_ok-try_clone-in-CodeBlock w ↦
          rw (w.in-CodeBlock.is, w.result-is) w.in_ok-try_clone-in-CodeBlock.ensures.slices
      | in-List w ↦ rw (w.in-List.is, w.result-is) tt
      | in-FootnoteDefinition+in_ok-try_clone-in-FootnoteDefinition w ↦
          rw (w.in-FootnoteDefinition.is, w.result-is) (w.in_ok-try_clone-in-FootnoteDefinition.ensures.borrowed, tt)
      | in-Table+in_ok-clone-in-Table w ↦ rw (w.in-Table.is, w.result-is) tt
      | in-Link+in_ok-dest_url-in-Link w ↦ rw (w.in-Link.is, w.result-is) w.in_ok-dest_url-in-Link.ensures.slices
      | in-Image+in_ok-dest_url-in-Image w ↦ rw (w.in-Image.is, w.result-is) w.in_ok-dest_url-in-Image.ensures.slices
      | in-MetadataBlock w ↦ rw (w.in-MetadataBlock.is, w.result-is) tt
      | in-Paragraph w ↦ rw (w.in-Paragraph.is, w.result-is) tt
      | in-HtmlBlock w ↦ rw (w.in-HtmlBlock.is, w.result-is) tt
      | in-Item w ↦ rw (w.in-Item.is, w.result-is) tt
      | in-DefinitionList w ↦ rw (w.in-DefinitionList.is, w.result-is) tt
      | in-DefinitionListTitle w ↦ rw (w.in-DefinitionListTitle.is, w.result-is) tt
      | in-DefinitionListDefinition w ↦ rw (w.in-DefinitionListDefinition.is, w.result-is) tt
      | in-TableHead w ↦ rw (w.in-TableHead.is, w.result-is) tt
      | in-TableRow w ↦ rw (w.in-TableRow.is, w.result-is) tt
      | in-TableCell w ↦ rw (w.in-TableCell.is, w.result-is) tt
      | in-Emphasis w ↦ rw (w.in-Emphasis.is, w.result-is) tt
      | in-Strong w ↦ rw (w.in-Strong.is, w.result-is) tt
      | in-Strikethrough w ↦ rw (w.in-Strikethrough.is, w.result-is) tt
      | in-Superscript w ↦ rw (w.in-Superscript.is, w.result-is) tt
      | in-Subscript w ↦ rw (w.in-Subscript.is, w.result-is) tt
    ]
