-- A task marker is the first item of a paragraph or of a heading in a list item.
use Rattle.std.specs.Prelude.{◌≡◌, Bool, true, false, ◌||◌}
use Rattle.std.specs.List.{list_any}
use Rattle.markdown_base.specs.Forest.{Forest, Throughout, nil, node, roots}
use Rattle.markdown_base.specs.declared.item.ItemBody.{ItemBody}
use Rattle.markdown_base.specs.declared.item.ItemBody.TheVariants as body
use Rattle.markdown_base.specs.Source.{Source}
use Rattle.markdown_block_rules.specs.BlockRules.{block_tree}
use Rattle.markdown_builder.specs.Shown.{Shown}

abbrev pub is_task_marker : ItemBody → Bool
is_task_marker (body.TaskListMarker done) = true
is_task_marker other = false

-- a paragraph, or a heading that one became
abbrev pub is_of_text : ItemBody → Bool
is_of_text body.Paragraph = true
is_of_text body.TightParagraph = true
is_of_text (body.Heading level attributes) = true
is_of_text other = false

abbrev pub is_list_item : ItemBody → Bool
is_list_item (body.ListItem indent) = true
is_list_item other = false

-- one of these siblings is a task marker
abbrev pub has_marker : Forest Shown → Bool
has_marker siblings = list_any (λ a. is_task_marker a.item.body) (roots siblings)

-- one of these siblings directly contains a task marker
abbrev pub has_task : Forest Shown → Bool
has_task nil = false
has_task (node a below after) = has_marker below || has_task after

-- An item, with the items below it and those after it. No task marker is after it, nothing is below it if it is one, it
-- is a paragraph or a heading if it directly contains one, and a list item if it directly contains such a block.
pub record KeepsMarkersFirst (a : Shown) (below after : Forest Shown) : Type 0 where
  pub first : has_marker after ≡ false
  pub bare : is_task_marker a.item.body ≡ true → below ≡ nil
  pub of_text : has_marker below ≡ true → is_of_text a.item.body ≡ true
  pub in_item : has_task below ≡ true → is_list_item a.item.body ≡ true

-- that holds for each item of a text, and neither a task marker nor a block that directly contains one is outermost
abbrev pub TaskMarkersComeFirst : Type 0
TaskMarkersComeFirst =
    (s : Source)
    → Throughout KeepsMarkersFirst (block_tree s)
    × (has_marker (block_tree s) ≡ false) × (has_task (block_tree s) ≡ false)
