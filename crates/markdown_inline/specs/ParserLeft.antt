-- What a parser holds, and what is left of it: the elements of its reading that it has not given yet, for the answers
-- that its callback will give.
use Rattle.std.specs.Prelude.{◌≡◌, ℕ, Bool, true, false, List, [], Option, is_some}
use Rattle.std.specs.List.{list_any}
use Rattle.markdown_base.specs.Arena.{Arena}
use Rattle.markdown_base.specs.CowText.{text_of}
use Rattle.markdown_base.specs.Questions.{Answers}
use Rattle.markdown_base.specs.Source.{Source}
use Rattle.markdown_block_rules.specs.BlockRules.{block_definitions}
use Rattle.markdown_base.specs.declared.item.Item.{Item}
use Rattle.markdown_blocks.specs.Blocks.{IsBlocksOf, block_arena, block_parts, block_source, text_of_blocks}
use Rattle.markdown_defs.specs.Definitions.{Labelled, firsts}
use Rattle.markdown_defs.specs.Folding.{is_match}
use Rattle.markdown_blocks.specs.declared.blocks.Blocks.{Blocks}
use Rattle.markdown_document.specs.EnclosingBlocks.{no_blocks}
use Rattle.markdown_document.specs.Document.{no_notes, document}
use Rattle.markdown_document.specs.Counts.{ChainCounts}
use Rattle.markdown_inline.specs.Elements.{Element, Passage, nothing_read}
use Rattle.markdown_inline.specs.Reading.{reading}
use Rattle.markdown_inline.specs.ReadingOfText.{defined_by, reading_of_text}
pub use Rattle.markdown_inline.specs.ReadingOfText.{expansion_limit, state_at_start}
use Rattle.markdown_document.specs.Setting.{Rules, Setting, ReferenceState, by_label, rules_from, setting_of, uses_of}
use Rattle.markdown_document.specs.Tables.{tables_of, tables_at_start}
use Rattle.markdown_inline.specs.Walk.{tree_left}
use Rattle.markdown_inline.specs.WalkTotals.{tree_steps}
use Rattle.markdown_inline.specs.declared.walk.Parser.{Parser}
use Rattle.markdown_inline.specs.declared.walk.OffsetIter.{OffsetIter}
use Rattle.markdown_document.specs.declared.work.Work.{Work}

-- the reference definitions of a block result that can be found: of those whose labels match, the first
abbrev pub findable_definitions : Blocks → List Labelled
findable_definitions blocks = firsts (block_parts blocks).definitions.items

-- the rules by which the chains of a block result are resolved, with or without a callback
abbrev pub rules_of : Blocks → Bool → Rules
rules_of blocks asks = record {
  syntax = (block_source blocks).syntax;
  definitions = by_label (findable_definitions blocks);
  is_footnote = λ name. list_any (λ n. is_match (text_of n) name) (block_parts blocks).footnotes.items;
  asks = asks;
}

-- the reading of a block result, for these answers, with or without a callback
abbrev pub reading_of : Blocks → Bool → Answers → List Element
reading_of blocks asks answers =
    (reading (setting_of (text_of_blocks blocks) (rules_of blocks asks)) no_notes (no_blocks (text_of_blocks blocks))
    (document (text_of_blocks blocks) (tables_at_start (block_parts blocks)) (block_arena blocks).nodes) nothing_read
    (state_at_start (text_of_blocks blocks) answers)).elements

-- the text that a parser reads
abbrev pub parser_text : {F : Type 0} → Parser F → List ℕ
parser_text p = p.resolver.text.now

-- the reference definitions that its chains can find
abbrev pub parser_definitions : {F : Type 0} → Parser F → List Labelled
parser_definitions p = p.resolver.lookup.tables.refdefs

-- the callback that it holds
abbrev pub parser_callback : {F : Type 0} → Parser F → Option F
parser_callback p = p.resolver.lookup.callback

-- the counts of the work that it has done
abbrev pub parser_work : {F : Type 0} → Parser F → Work
parser_work p = p.resolver.work

-- the counts before any chain is resolved
abbrev pub no_work : Work
no_work = record { delimiters = 0; examined = 0; items = 0; code_visits = 0; math_visits = 0 }

-- the arena that it walks over
abbrev pub parser_tree : {F : Type 0} → Parser F → Arena Item
parser_tree p = p.tree

-- what resolving its chains depends on
abbrev pub parser_setting : {F : Type 0} → Parser F → Setting
parser_setting p = setting_of p.resolver.text.now (rules_from p.resolver.syntax p.resolver.lookup.tables
    (is_some p.resolver.lookup.callback))

-- what is known when the next chain is reached, where these answers are still to come
abbrev pub parser_state : {F : Type 0} → Parser F → Answers → ReferenceState
parser_state p answers = record {
  limit = p.resolver.lookup.limit;
  answers = answers;
  uses = uses_of p.resolver.lookup.tables.footdefs;
}

-- what is left of it, for these answers
abbrev pub parser_left : {F : Type 0} → Parser F → Answers → Passage
parser_left p answers = tree_left (parser_setting p) (tables_of p.resolver.lookup.tables) p.tree
    (parser_state p answers)

-- the elements that are left of it
unfoldable pub elements : {F : Type 0} → Parser F → Answers → List Element
elements p answers = (parser_left p answers).elements

-- the counts of the chain that it resolves before its next event, if it resolves one
abbrev pub parser_counts : {F : Type 0} → Parser F → Answers → ChainCounts
parser_counts p answers = (parser_left p answers).counts

-- all of the reading of a block result is left, for every list of answers
abbrev pub ReadsBlocks : {F : Type 0} → Blocks → Parser F → Type 0
ReadsBlocks blocks p = (answers : Answers)
    → elements p answers ≡ reading_of blocks (is_some (parser_callback p)) answers

-- all of the reading of a source is left, for every list of answers. The reference definitions that can be found are
-- those of the source, and the chains are those of some block result of it.
pub record ReadsText {F : Type 0} (s : Source) (p : Parser F) : Type 0 where
  pub left : (answers : Answers) → elements p answers ≡ reading_of_text s (is_some (parser_callback p)) answers
  pub definitions : by_label (parser_definitions p) ≡ defined_by (block_definitions s)
  pub blocks : Blocks
  pub of_text : IsBlocksOf s blocks
  pub of_blocks : ReadsBlocks blocks p

-- a bound on the steps to come, and so on the items
abbrev pub parser_steps : {F : Type 0} → Parser F → ℕ
parser_steps p = tree_steps p.tree

-- the walk is over: nothing is left, and no step is to come
pub record IsOver {F : Type 0} (p : Parser F) : Type 0 where
  pub left : (answers : Answers) → elements p answers ≡ []
  pub steps : parser_steps p ≡ 0

-- the parser whose events an iterator gives with their ranges
abbrev pub offset_parser : {F : Type 0} → OffsetIter F → Parser F
offset_parser o = o.inner
