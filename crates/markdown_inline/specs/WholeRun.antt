-- What callers may rely on in the events of a whole document, and in the questions that are asked on the way.
use Rattle.std.specs.Prelude.{◌≡◌, ◌≤◌, ℕ, Bool, List, map, length, Option, is_some}
use Rattle.std.specs.declared.ops.Range.{Range}
use Rattle.markdown_base.specs.Event.{event_view}
use Rattle.markdown_base.specs.Forest.{Forest, roots}
use Rattle.markdown_base.specs.Questions.{Question, Answer, Answers}
use Rattle.markdown_base.specs.declared.event.Event.{Event}
use Rattle.markdown_blocks.specs.Blocks.{text_of_blocks, block_arena, block_parts}
use Rattle.markdown_blocks.specs.declared.blocks.Blocks.{Blocks}
use Rattle.markdown_brackets.specs.BracketLaws.{ClosedLaw}
use Rattle.markdown_brackets.specs.QuestionsAsked.{AsksAtMost, EndApart, closers_among}
use Rattle.markdown_defs.specs.Callback.{Asks}
use Rattle.markdown_document.specs.EnclosingBlocks.{EnclosingBlocks}
use Rattle.markdown_document.specs.Document.{Plain, document, no_notes}
use Rattle.markdown_document.specs.Setting.{ReferenceState, Setting, setting_of}
use Rattle.markdown_document.specs.Tables.{tables_at_start}
use Rattle.markdown_inline.specs.Balanced.{Ranged, AreBalanced, ranged}
use Rattle.markdown_inline.specs.Elements.{events_of, questions_of}
use Rattle.markdown_inline.specs.LimitLaw.{ExpandsBelow}
use Rattle.markdown_inline.specs.NoLinkInLinkEvents.{NoLinkInLink}
use Rattle.markdown_inline.specs.ParserLeft.{ReadsBlocks, expansion_limit, parser_callback, reading_of, rules_of}
use Rattle.markdown_inline.specs.QuestionLaws.{closers_of}
use Rattle.markdown_inline.specs.declared.walk.Parser.{Parser}
use Rattle.markdown_resolver.specs.Kept.{EachChain}
use Rattle.markdown_resolver.specs.Resolved.{resolved}

-- events as views, which do not depend on the memory that holds their texts
abbrev pub viewed : List (Event × Range ℕ) → List Ranged
viewed given = map (λ (e : Event × Range ℕ). (event_view e.0, e.1)) given

-- events are balanced, a link within a link is an autolink, with or without addresses, and references expand to few
-- bytes
pub record IsWhole (source : List ℕ) (addresses : Bool) (events : List Ranged) : Type 0 where
  pub balanced : AreBalanced events
  pub links_apart : NoLinkInLink addresses events
  pub expands : ExpandsBelow (expansion_limit source) events

-- a chain asks at most one question for each of its `]`, none where the limit is 0 when it is reached, and no two that
-- end at the same byte offset
pub record AsksApartAndOnce (s : Setting) (above : EnclosingBlocks) (state : ReferenceState)
    (chain : Forest Plain) : Type 0 where
  pub at_most : AsksAtMost (closers_among (roots chain)) state.limit (resolved s no_notes above chain state).questions
  pub apart : EndApart (resolved s no_notes above chain state).questions

-- this is true of each chain of a block result; each `]` asks at most one question, and none where the limit is 0 when
-- it is read, whatever was read before it; so in all no more questions are asked than the block result has `]`
pub record AsksOnce (blocks : Blocks) (asks : Bool) (questions : List Question) : Type 0 where
  pub at_most : length questions ≤ closers_of (block_arena blocks).nodes
  pub when_read : ClosedLaw (Unit {0})
  pub in_chains : EachChain (λ (chain : Forest Plain). (above : EnclosingBlocks) (state : ReferenceState)
      → AsksApartAndOnce (setting_of (text_of_blocks blocks) (rules_of blocks asks)) above state chain)
      (document (text_of_blocks blocks) (tables_at_start (block_parts blocks)) (block_arena blocks).nodes)

-- these events keep the laws of the whole document of a block result, and are those of its reading for the answers of
-- the callback, which was asked the questions of that reading, and these keep the laws too
pub record IsWholeRun {F : Type 0} (step : F → Question → Option Answer → F → Type 0) (blocks : Blocks) (p : Parser F)
    (given : List (Event × Range ℕ)) (callback : Option F) : Type 0 where
  pub events : IsWhole (text_of_blocks blocks) (rules_of blocks (is_some (parser_callback p))).syntax.addresses
      (viewed given)
  pub answers : Answers
  pub are : viewed given ≡ ranged (events_of (reading_of blocks (is_some (parser_callback p)) answers))
  pub asked : Asks step (parser_callback p) (questions_of (reading_of blocks (is_some (parser_callback p)) answers))
      answers callback
  pub once : AsksOnce blocks (is_some (parser_callback p))
      (questions_of (reading_of blocks (is_some (parser_callback p)) answers))

-- this is true if all of the reading of a block result was left of the parser
abbrev pub IsWholeFromStart : {F : Type 0} → (F → Question → Option Answer → F → Type 0) → Parser F
    → List (Event × Range ℕ) → Option F → Type 0
IsWholeFromStart step p given callback = (blocks : Blocks) → ReadsBlocks blocks p
    → IsWholeRun step blocks p given callback
