-- Definitions for clauses on parsers and on what they read, re-exported so that a caller names this crate alone.

-- the reading of a block result
pub use Rattle.markdown_inline.specs.Elements.{Element, question, event, Placed, events_of, questions_of}
pub use Rattle.markdown_inline.specs.ParserLeft.{reading_of, expansion_limit, findable_definitions}
pub use Rattle.markdown_document.specs.Origins.{Origin, sliced, inlined, made, IsSliceWithin}
pub use Rattle.markdown_document.specs.LinkOrigins.{LinkOrigins, destination_origin, IsLinkFrom, IsTitleFrom}
pub use Rattle.markdown_document.specs.Places.{follows_pipe, origin_start}
pub use Rattle.markdown_document.specs.LinkOrigins.{LeadsToSlice, titles_for}
pub use Rattle.markdown_document.specs.LinkTitle.{Title, title_at, title_origin}
-- the reading of a text, by definition
pub use Rattle.markdown_inline.specs.DocumentOfText.{document_of}
pub use Rattle.markdown_inline.specs.ReadingOfText.{reading_of_text, events_of_text, rules_of_text, defined_by}
pub use Rattle.markdown_inline.specs.TextLaw.{TextLaw}
-- the tree of a block result, and the reading of it
pub use Rattle.markdown_inline.specs.ResolvedDocument.{Resolution, Resolving, resolved_blocks, resolved_document}
pub use Rattle.markdown_inline.specs.ResolvedDocument.{resolved_chain}
pub use Rattle.markdown_inline.specs.TreeReading.{events_in, tree_events, ReadsTree, TreeLaw, SplitLaw}
pub use Rattle.markdown_inline.specs.TreeReading.{ReadsBlockTree, BlockTreeLaw}
pub use Rattle.markdown_inline.specs.SlicesOfTree.{BlockSlicesLaw}
pub use Rattle.markdown_inline.specs.ResolvedShapes.{IsMadeShape, IsMadeEvent, IsMadeTag, IsPairedTag, ShapesLaw}
pub use Rattle.markdown_document.specs.Document.{Shape, leaf, enclosed, plain, backslash_break, unresolved, TreeNode}
-- what is left of a parser
pub use Rattle.markdown_inline.specs.ParserLeft.{parser_text, parser_definitions, parser_callback, parser_work}
pub use Rattle.markdown_inline.specs.ParserLeft.{parser_steps, parser_counts, offset_parser}
pub use Rattle.markdown_inline.specs.ParserLeft.{ReadsText, ReadsBlocks, IsOver}
unfoldable pub use Rattle.markdown_inline.specs.ParserLeft.{elements}
pub use Rattle.markdown_inline.specs.declared.walk.Parser.{Parser}
pub use Rattle.markdown_inline.specs.declared.walk.OffsetIter.{OffsetIter}
-- an item of a parser, and all of them
pub use Rattle.markdown_inline.specs.NextGives.{NextGives, GivesItem, GivesError, GivesNone, IsEventOf, IsPlacedOf}
pub use Rattle.markdown_inline.specs.Runs.{AreOf, GaveAll, WasRefused, IsRun, GaveRest, GaveBeginning}
pub use Rattle.markdown_inline.specs.Slices.{IsSliceOf, slice_start, texts_of, titles_in, IsFrom, AreFrom, StartIsFrom}
-- between two calls
pub use Rattle.markdown_inline.specs.OneForest.{IsOneForest, ReadsOneForest}
-- the events of a whole document
pub use Rattle.markdown_inline.specs.Balanced.{Ranged, ranged, AreBalanced, BalancedLaw}
pub use Rattle.markdown_inline.specs.NoLinkInLinkEvents.{NoLinkInLink, NoLinkInLinkLaw}
pub use Rattle.markdown_inline.specs.LimitLaw.{ExpandsBelow, LimitLaw, LookUpLaw}
pub use Rattle.markdown_inline.specs.QuestionLaws.{DocumentCountLaw, DocumentEndsLaw}
pub use Rattle.markdown_inline.specs.ReadingLaw.{ReadingLaw}
pub use Rattle.markdown_inline.specs.WholeRun.{viewed, IsWhole, AsksApartAndOnce, AsksOnce, IsWholeRun}
pub use Rattle.markdown_inline.specs.WholeRun.{IsWholeFromStart}
pub use Rattle.markdown_brackets.specs.BracketLaws.{ClosedLaw, ClosesInOne}
-- counts of work
pub use Rattle.markdown_inline.specs.ParserLeft.{no_work}
pub use Rattle.markdown_inline.specs.CountsLaw.{Calls, AreBelowGreatest, CountsLaw, RisesPlainly}
pub use Rattle.markdown_document.specs.Counts.{ChainCounts, WorkRises, risen, RisesAtMost, RisesAtLeast}
pub use Rattle.markdown_document.specs.declared.work.Work.{Work}
