-- The document of a text is that of each of its block results, whatever the numbers by which items refer to parts.
use Rattle.std.proofs.Common.{◌≡◌, ℕ, zero, suc, ◌-◌, false, List, [], ◌∷◌, Some, None, refl, sym, ap, ◌∙◌, map, subst}
use Rattle.std.specs.Option.{option_map}
use Rattle.std.specs.Prelude.{slice_get, slice_range, unwrap_or}
use Rattle.std.specs.declared.alloc.Global.{Global}
use Rattle.std.specs.declared.vec.Vec.{Vec}
use Rattle.markdown_base.proofs.ForestLemmas.{relabelled-Throughout, relabelled-relabelled}
use Rattle.markdown_base.specs.BlockTree.{Numbered, tree_of}
use Rattle.markdown_base.specs.CowText.{text_of}
use Rattle.markdown_base.specs.Event.{heading}
use Rattle.markdown_base.specs.Forest.{Forest, nil, node, Each, relabelled}
use Rattle.markdown_base.specs.HeadingWords.{words_of, worded_heading}
use Rattle.markdown_base.specs.declared.block_parts.BlockParts.{BlockParts}
use Rattle.markdown_base.specs.declared.block_parts.HeadingAttributes.{HeadingAttributes}
use Rattle.markdown_base.specs.declared.cow_str.CowStr.{CowStr}
use Rattle.markdown_base.specs.declared.item.Item.{Item}
use Rattle.markdown_base.specs.declared.item.ItemBody.{ItemBody}
use Rattle.markdown_base.specs.declared.item.ItemBody.TheVariants as body
use Rattle.markdown_base.specs.declared.node.Node.{Node}
use Rattle.markdown_base.specs.declared.tag.Alignment.{Alignment}
use Rattle.markdown_base.specs.declared.tag.HeadingLevel.{HeadingLevel}
use Rattle.markdown_block_rules.proofs.MadeLaterLemmas.{nothing_made_later}
use Rattle.markdown_block_rules.specs.MadeLater.{is_made_later}
use Rattle.markdown_block_rules.specs.BlockResults.{IsBlockResult}
use Rattle.markdown_builder.specs.Shown.{Parts, Shown, alignments_shown, heading_shown, shown_item, shown_result}
use Rattle.markdown_builder.specs.Shown.{stored_parts, text_shown, unnumbered}
use Rattle.markdown_document.specs.Document.{Shape, block_of, document, enclosed, shape_of, tree_node_of}
use Rattle.markdown_document.specs.Tables.{alignments_at, heading_at, tables_at_start, text_at}
use Rattle.markdown_inline.specs.DocumentOfText.{document_of, node_shown, shape_with, tables_for}
use Rattle.markdown_base.specs.Source.{Source}

-- the text, the heading and the alignments of a number, as they are shown and as they are stored
text_found : (cows : List CowStr) (ix : ℕ) → text_at (tables_for (slice_get (map text_of cows) ix)).cows 0
    ≡ text_at cows ix
text_found [] ix = refl
text_found (c ∷ cows) zero = refl
text_found (c ∷ cows) (suc ix) = text_found cows ix

heading_found : (source : List ℕ) (level : HeadingLevel) (headings : List HeadingAttributes) (n : ℕ)
    → shape_with None (option_map (worded_heading level) (slice_get (map words_of headings) n)) [] source
    (body.Heading level (Some (record { 0 = 1 }))) ≡ enclosed (heading (heading_at level headings n)) []
heading_found source level [] n = refl
heading_found source level (a ∷ headings) zero = refl
heading_found source level (a ∷ headings) (suc n) = heading_found source level headings n

alignments_found : (alignments : List (Vec Alignment Global)) (ix : ℕ)
    → unwrap_or (slice_get (map (λ a. a.items) alignments) ix) [] ≡ alignments_at alignments ix
alignments_found [] ix = refl
alignments_found (a ∷ alignments) zero = refl
alignments_found (a ∷ alignments) (suc ix) = alignments_found alignments ix

-- how a body reads with what is shown of it
module _ (source : List ℕ) (parts : BlockParts) where
  stored : Parts
  stored = stored_parts parts.cows.items parts.headings.items parts.alignments.items

  shown_shape : ItemBody → Shape
  shown_shape b =
      shape_with (text_shown stored.texts b) (heading_shown stored.headings b)
      (alignments_shown stored.alignments b) source (unnumbered b)

  same_shape : (b : ItemBody) → is_made_later (unnumbered b) ≡ false
      → shown_shape b ≡ shape_of (tables_at_start parts) source b
  unfolding stored shown_shape
  same_shape (body.SynthesizeText ix) h = rw (text_found parts.cows.items ix.0) refl
  same_shape (body.FencedCodeBlock ix) h = rw (text_found parts.cows.items ix.0) refl
  same_shape (body.FootnoteDefinition ix) h = rw (text_found parts.cows.items ix.0) refl
  same_shape (body.Heading level (Some ix)) h = heading_found source level parts.headings.items (ix.0 - 1)
  same_shape (body.Table ix) h = rw (alignments_found parts.alignments.items ix.0) refl
  same_shape (body.Code ix) h = cc h
  same_shape (body.Math ix display) h = cc h
  same_shape (body.OwnedInlineHtml ix) h = cc h
  same_shape (body.Link ix) h = cc h
  same_shape (body.Image ix) h = cc h
  same_shape (body.FootnoteReference ix) h = cc h
  same_shape other h = refl

-- the number is left out of a block's body either way
same_block : (b : ItemBody) → block_of (unnumbered b) ≡ block_of b
same_block (body.SynthesizeText ix) = refl
same_block (body.FencedCodeBlock ix) = refl
same_block (body.FootnoteDefinition ix) = refl
same_block (body.Heading level (Some ix)) = refl
same_block (body.Table ix) = refl
same_block other = refl

same_node : (source : List ℕ) (parts : BlockParts) (item : Item)
    → is_made_later (unnumbered item.body) ≡ false
    → node_shown source
    (shown_item (stored_parts parts.cows.items parts.headings.items parts.alignments.items) item)
    ≡ tree_node_of source (tables_at_start parts) item
unfolding stored shown_shape
same_node source parts item h =
    rw (same_shape (slice_range source item.start item.end) parts item.body h, same_block item.body) refl

-- nodes that are the same one by one
same_labels : {A B : Type 0} (f g : A → B) (t : Forest A) → Each (λ a. f a ≡ g a) t → relabelled f t ≡ relabelled g t
same_labels f g nil h = refl
same_labels f g (node a below after) h = rw (h.0, same_labels f g below h.1, same_labels f g after h.2) refl

each_same : (source : List ℕ) (parts : BlockParts) (t : Forest Numbered)
    → Each (λ n. is_made_later (unnumbered n.item.body) ≡ false) t
    → Each (λ n. node_shown source
    (shown_item (stored_parts parts.cows.items parts.headings.items parts.alignments.items) n.item)
    ≡ tree_node_of source (tables_at_start parts) n.item) t
each_same source parts nil h = tt
each_same source parts (node n below after) h =
    (same_node source parts n.item h.0, each_same source parts below h.1, each_same source parts after h.2)

pub document-of_text : (s : Source) (nodes : List (Node Item)) (parts : BlockParts) → IsBlockResult s nodes parts
    → document s.text (tables_at_start parts) nodes ≡ document_of s
document-of_text s nodes parts is =
    let held : Parts = stored_parts parts.cows.items parts.headings.items parts.alignments.items in
    let items : Forest Item = relabelled (λ (n : Numbered). n.item) (tree_of nodes) in
    let made : Each (λ (a : Shown). is_made_later a.item.body ≡ false) (shown_result nodes parts) =
    subst (Each (λ (a : Shown). is_made_later a.item.body ≡ false)) (sym is.tree) (nothing_made_later s) in
    let each : Each (λ (n : Numbered). is_made_later (unnumbered n.item.body) ≡ false) (tree_of nodes) =
    relabelled-Throughout (λ (n : Numbered). n.item) (λ a below after. is_made_later (unnumbered a.body) ≡ false)
    (tree_of nodes)
    (relabelled-Throughout (shown_item held) (λ a below after. is_made_later a.item.body ≡ false) items made) in
    sym (ap (relabelled (node_shown s.text)) (sym is.tree)
    ∙ relabelled-relabelled (shown_item held) (node_shown s.text) items
    ∙ relabelled-relabelled (λ (n : Numbered). n.item) (λ (a : Item). node_shown s.text (shown_item held a))
    (tree_of nodes)
    ∙ same_labels (λ (n : Numbered). node_shown s.text (shown_item held n.item))
    (λ (n : Numbered). tree_node_of s.text (tables_at_start parts) n.item) (tree_of nodes)
    (each_same s.text parts (tree_of nodes) each))
