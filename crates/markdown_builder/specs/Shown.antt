-- The items of a tree with what they refer to, in place of the numbers by which they do; and what the calls of a
-- builder make of such trees.
use Rattle.std.specs.Prelude.{ℕ, zero, suc, ◌-◌, Bool, List, [], ◌∷◌, Option, Some, None, cond, map, slice_get}
use Rattle.std.specs.Prelude.{unwrap_or}
use Rattle.std.specs.declared.alloc.Global.{Global}
use Rattle.std.specs.declared.vec.Vec.{Vec}
use Rattle.std.specs.Option.{option_map}
use Rattle.markdown_base.specs.BlockTree.{tree_of}
use Rattle.markdown_base.specs.CowText.{text_of}
use Rattle.markdown_base.specs.Event.{HeadingView}
use Rattle.markdown_base.specs.Forest.{Forest, nil, node, relabelled}
use Rattle.markdown_base.specs.HeadingWords.{HeadingWords, words_of, worded_heading}
use Rattle.markdown_base.specs.declared.block_parts.BlockParts.{BlockParts}
use Rattle.markdown_base.specs.declared.block_parts.HeadingAttributes.{HeadingAttributes}
use Rattle.markdown_base.specs.declared.cow_str.CowStr.{CowStr}
use Rattle.markdown_base.specs.declared.item.Item.{Item}
use Rattle.markdown_base.specs.declared.item.ItemBody.{ItemBody}
use Rattle.markdown_base.specs.declared.item.ItemBody.TheVariants as body
use Rattle.markdown_base.specs.declared.node.Node.{Node}
use Rattle.markdown_base.specs.declared.tag.Alignment.{Alignment}
use Rattle.markdown_builder.specs.TreeLevels.{items_changed, tight_if_paragraph, with_closed_by}
use Rattle.markdown_builder.specs.Tightness.{is_tight_list}

-- An item, and what its body refers to by a number, in place of which there is 0 here (1 for a heading): a text; a
-- heading with its attributes; or the alignments of a table's columns.
pub record Shown : Type 0 where
  pub item : Item
  pub text : Option (List ℕ)
  pub heading : Option HeadingView
  pub alignments : List Alignment

-- an item that refers to nothing
abbrev pub plain_item : ℕ → ℕ → ItemBody → Shown
plain_item start end b =
    record { item = record { start = start; end = end; body = b }; text = None; heading = None; alignments = [] }

-- a text in place of the bytes of a range
abbrev pub synthesized_item : ℕ → ℕ → List ℕ → Shown
synthesized_item start end text = record {
  item = record { start = start; end = end; body = body.SynthesizeText (record { 0 = 0 }) };
  text = Some text;
  heading = None;
  alignments = [];
}

-- items beside each other, with nothing below them
abbrev pub chain_of : {A : Type 0} → List A → Forest A
chain_of [] = nil
chain_of (a ∷ items) = node a nil (chain_of items)

-- what items refer to by numbers
pub record Parts : Type 0 where
  pub texts : List (List ℕ)
  pub headings : List HeadingWords
  pub alignments : List (List Alignment)

-- these parts, as they are stored
abbrev pub stored_parts : List CowStr → List HeadingAttributes → List (Vec Alignment Global) → Parts
stored_parts texts headings alignments = record {
  texts = map text_of texts;
  headings = map words_of headings;
  alignments = map (λ a. a.items) alignments;
}

-- a body, with the first number in place of the one by which it refers to a part
abbrev pub unnumbered : ItemBody → ItemBody
unnumbered (body.SynthesizeText ix) = body.SynthesizeText (record { 0 = 0 })
unnumbered (body.FencedCodeBlock ix) = body.FencedCodeBlock (record { 0 = 0 })
unnumbered (body.FootnoteDefinition ix) = body.FootnoteDefinition (record { 0 = 0 })
unnumbered (body.Heading level (Some ix)) = body.Heading level (Some (record { 0 = 1 }))
unnumbered (body.Table ix) = body.Table (record { 0 = 0 })
unnumbered other = other

-- the text that a body refers to
abbrev pub text_shown : List (List ℕ) → ItemBody → Option (List ℕ)
text_shown texts (body.SynthesizeText ix) = slice_get texts ix.0
text_shown texts (body.FencedCodeBlock ix) = slice_get texts ix.0
text_shown texts (body.FootnoteDefinition ix) = slice_get texts ix.0
text_shown texts other = None

-- the heading with the attributes that a body refers to
abbrev pub heading_shown : List HeadingWords → ItemBody → Option HeadingView
heading_shown headings (body.Heading level (Some ix)) =
    option_map (worded_heading level) (slice_get headings (ix.0 - 1))
heading_shown headings other = None

-- the alignments that a body refers to
abbrev pub alignments_shown : List (List Alignment) → ItemBody → List Alignment
alignments_shown alignments (body.Table ix) = unwrap_or (slice_get alignments ix.0) []
alignments_shown alignments other = []

-- an item with what it refers to
abbrev pub shown_item : Parts → Item → Shown
shown_item parts item = record {
  item = record item { body = unnumbered item.body };
  text = text_shown parts.texts item.body;
  heading = heading_shown parts.headings item.body;
  alignments = alignments_shown parts.alignments item.body;
}

-- trees with what their items refer to
abbrev pub shown_trees : Parts → Forest Item → Forest Shown
shown_trees parts trees = relabelled (shown_item parts) trees

-- likewise, level by level
abbrev pub shown_levels : Parts → List (Forest Item) → List (Forest Shown)
shown_levels parts levels = map (shown_trees parts) levels

-- the last `count` characters of a delimiter run that ends at a byte offset
abbrev pub run_items : ℕ → (opens closes : Bool) → ℕ → List Shown
run_items stop opens closes zero = []
run_items stop opens closes (suc count) =
    plain_item (stop - suc count) (stop - count) (body.MaybeEmphasis (suc count) opens closes)
    ∷ run_items stop opens closes count

abbrev pub tight_shown : Shown → Shown
tight_shown a = record a { item = tight_if_paragraph a.item }

-- what is in a block, when it is closed: the paragraphs directly in the items of a tight list are made tight
abbrev pub settled_below : Shown → Forest Shown → Forest Shown
settled_below a below = cond (is_tight_list a.item.body) (items_changed tight_shown below) below

-- the levels, with the innermost block closed: it and what is in it become the last tree of the level around it
abbrev pub with_block : List (Forest Shown) → Shown → List (Forest Shown)
with_block levels a = with_closed_by settled_below levels a

-- the tree of a block result, whose items are stored in nodes, with what they refer to among its parts
abbrev pub shown_result : List (Node Item) → BlockParts → Forest Shown
shown_result nodes parts =
    shown_trees (stored_parts parts.cows.items parts.headings.items parts.alignments.items)
    (relabelled (λ n. n.item) (tree_of nodes))
