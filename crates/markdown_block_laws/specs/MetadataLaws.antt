-- Metadata is directly under the root, and contains texts.
use Rattle.std.specs.Prelude.{◌≡◌, Bool, true, false, ⊤}
use Rattle.std.specs.List.{list_any}
use Rattle.markdown_base.specs.Forest.{Forest, Throughout, nil, node, roots}
use Rattle.markdown_base.specs.declared.item.ItemBody.{ItemBody}
use Rattle.markdown_base.specs.declared.item.ItemBody.TheVariants as body
use Rattle.markdown_base.specs.Source.{Source}
use Rattle.markdown_block_rules.specs.BlockRules.{block_tree}
use Rattle.markdown_builder.specs.Shown.{Shown}

abbrev pub is_metadata : ItemBody → Bool
is_metadata (body.MetadataBlock kind) = true
is_metadata other = false

abbrev pub is_text_item : ItemBody → Bool
is_text_item (body.Text escaped) = true
is_text_item other = false

-- one of these siblings is metadata
abbrev pub has_metadata : Forest Shown → Bool
has_metadata siblings = list_any (λ a. is_metadata a.item.body) (roots siblings)

-- these siblings are texts, with nothing below them
abbrev pub AreTexts : Forest Shown → Type 0
AreTexts nil = ⊤
AreTexts (node a below after) = (is_text_item a.item.body ≡ true) × (below ≡ nil) × AreTexts after

-- An item, with the items below it. None of these is metadata, and they are texts if it is metadata.
pub record KeepsMetadataOutermost (a : Shown) (below after : Forest Shown) : Type 0 where
  pub outermost : has_metadata below ≡ false
  pub texts : is_metadata a.item.body ≡ true → AreTexts below

-- that holds for each item of a text
abbrev pub MetadataIsOutermost : Type 0
MetadataIsOutermost = (s : Source) → Throughout KeepsMetadataOutermost (block_tree s)
