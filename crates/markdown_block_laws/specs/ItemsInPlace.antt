-- List items stand directly in lists and nowhere else, and a list holds items alone (CommonMark 5.2 and 5.3).
use Rattle.std.specs.Prelude.{◌≡◌, Bool, true, false, ⊤}
use Rattle.markdown_base.specs.Forest.{Forest, nil, node}
use Rattle.markdown_base.specs.declared.item.ItemBody.{ItemBody}
use Rattle.markdown_base.specs.declared.item.ItemBody.TheVariants as body
use Rattle.markdown_base.specs.Source.{Source}
use Rattle.markdown_block_laws.specs.TaskLaws.{is_list_item}
use Rattle.markdown_block_rules.specs.BlockRules.{block_tree}
use Rattle.markdown_builder.specs.Shown.{Shown}

-- the body is that of a list
abbrev pub is_list : ItemBody → Bool
is_list (body.List tight marker first) = true
is_list other = false

-- each of these siblings is a list item exactly if they stand directly in a list, and so it is below each of them
abbrev pub ItemsInPlace : (in_list : Bool) → Forest Shown → Type 0
ItemsInPlace in_list nil = ⊤
ItemsInPlace in_list (node a below after) =
    (is_list_item a.item.body ≡ in_list)
    × ItemsInPlace (is_list a.item.body) below × ItemsInPlace in_list after

-- that holds for the blocks of each text, of which the outermost stand in no list
abbrev pub ItemsOfTextsInPlace : Type 0
ItemsOfTextsInPlace = (s : Source) → ItemsInPlace false (block_tree s)
