-- A table holds a head and then rows, and heads, rows and cells stand nowhere else.
use Rattle.std.specs.Prelude.{⊤}
use Rattle.markdown_base.specs.Forest.{Forest, nil, node}
use Rattle.markdown_base.specs.declared.item.ItemBody.{ItemBody}
use Rattle.markdown_base.specs.declared.item.ItemBody.TheVariants as body
use Rattle.markdown_base.specs.Source.{Source}
use Rattle.markdown_block_laws.specs.TableLaws.{AreHeadAndRows}
use Rattle.markdown_block_rules.specs.BlockRules.{block_tree}
use Rattle.markdown_builder.specs.Shown.{Shown}

-- Outside of tables an item of this body may stand over the items below it: a table over a head and rows, of cells with
-- inline items alone; no head, row or cell; and any other item if `inner` is so of the items below.
abbrev pub StandsOutside : ItemBody → (below : Forest Shown) → (inner : Type 0) → Type 0
StandsOutside (body.Table alignments) below inner = AreHeadAndRows below
StandsOutside body.TableHead below inner = ⊥
StandsOutside body.TableRow below inner = ⊥
StandsOutside body.TableCell below inner = ⊥
StandsOutside other below inner = inner

-- these items, which are in no table, and those below them keep to that
abbrev pub TablesInPlace : Forest Shown → Type 0
TablesInPlace nil = ⊤
TablesInPlace (node a below after) = StandsOutside a.item.body below (TablesInPlace below) × TablesInPlace after

-- that holds for the blocks of each text
abbrev pub TablesOfTextsInPlace : Type 0
TablesOfTextsInPlace = (s : Source) → TablesInPlace (block_tree s)
