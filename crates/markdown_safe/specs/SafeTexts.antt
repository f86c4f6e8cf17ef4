-- Laws of the safe HTML of a text.
use Rattle.markdown_base.specs.Source.{Source}
use Rattle.markdown_blocks.specs.Blocks.{IsBlocksOf}
use Rattle.markdown_blocks.specs.declared.blocks.Blocks.{Blocks}
use Rattle.markdown_safe.specs.PlacedTree.{IsPlacedTree}
use Rattle.markdown_safe.specs.SafeHtml.{IsSafeHtml}
use Rattle.markdown_safe.specs.SafeRendering.{safe_html_of_text}
use Rattle.markdown_safe.specs.SafeRules.{SafeRulesView}

-- it is safe
abbrev pub TextsAreSafe : Type 0
TextsAreSafe = (rules : SafeRulesView) (s : Source) → IsSafeHtml (safe_html_of_text rules s)

-- and it is a tree of elements that stand where a browser leaves them, where the text has a block result
abbrev pub TextsAreTrees : Type 0
TextsAreTrees = (rules : SafeRulesView) (s : Source) (blocks : Blocks) → IsBlocksOf s blocks
    → IsPlacedTree (safe_html_of_text rules s)
