-- Pass one over a chain: its items are read from left to right, each once. Code, math, autolinks and raw HTML are
-- found, an opener of one at which nothing is found becomes a Text, and brackets become links, images, footnote
-- references and wikilinks.
use Rattle.std.specs.Prelude.{List}
use Rattle.markdown_base.specs.Forest.{Forest, nil}
use Rattle.markdown_base.specs.Questions.{Question}
use Rattle.markdown_brackets.specs.BracketDecision.{BracketContext, Progress}
use Rattle.markdown_brackets.specs.LeftList.{trees_onto, all_done}
use Rattle.markdown_brackets.specs.ReadChain.{Reader, begun, read_chain}
use Rattle.markdown_document.specs.EnclosingBlocks.{EnclosingBlocks}
use Rattle.markdown_document.specs.Document.{Notes, TreeNode}
use Rattle.markdown_document.specs.Setting.{Setting, ReferenceState}
use Rattle.markdown_spans.specs.Finds.{Passed, prefix_below, read_tree}

-- brackets are read below the blocks that are open above, whose prefix is skipped on each line
abbrev pub bracket_context : Setting → EnclosingBlocks → BracketContext
bracket_context s above = record { setting = s; above = above; skipped = prefix_below s above }

-- the trees that replace an item are appended to the left list
abbrev pub put_passed : {A : Type 0} → Passed A → Progress A → Progress A
put_passed r p = record p { left = all_done r.trees p.left; goes_on = r.goes_on; made = r.made }

-- an item that is not a bracket
abbrev pub read_other : {A : Type 0} → Setting → Notes A → EnclosingBlocks → Reader A
read_other s notes above a below rest p = put_passed (read_tree s notes above p.made a below rest) p

-- a chain, from a progress on
abbrev pub read_on : {A : Type 0} → Setting → Notes A → EnclosingBlocks → Forest (TreeNode A) → Progress A → Progress A
read_on s notes above chain p = read_chain (bracket_context s above) (read_other s notes above) chain p

-- the result of resolving a chain: the questions, the forest, and what is known after it
pub record Outcome (A : Type 0) : Type 0 where
  pub questions : List Question
  pub forest : Forest (TreeNode A)
  pub state : ReferenceState

-- what pass one made of a chain
abbrev pub outcome : {A : Type 0} → Progress A → Outcome A
outcome p = record { questions = p.asked; forest = trees_onto p.left nil; state = p.state }

-- pass one over a chain from its first open item on, below the blocks that are open above it
unfoldable pub pass_one : {A : Type 0} → Setting → Notes A → EnclosingBlocks → Forest (TreeNode A) → ReferenceState
    → Outcome A
pass_one s notes above chain state = outcome (read_on s notes above chain (begun state))
