-- Definitions for clauses on link reference definitions, footnotes and callbacks, re-exported so that a caller names
-- this crate alone.

-- matching by case folding
unfoldable pub use Rattle.markdown_defs.specs.Folding.{case_folding}
pub use Rattle.markdown_defs.specs.Folding.{is_match}
-- definitions
pub use Rattle.markdown_defs.specs.Definitions.{Labelled, find_definition, add_first}
pub use Rattle.markdown_defs.specs.DistinctDefinitions.{HasOtherFolding, AreDistinct}
unfoldable pub use Rattle.markdown_defs.specs.Definitions.{firsts}
pub use Rattle.markdown_defs.specs.DefinitionsLeft.{definitions_left, with_text, values_of}
pub use Rattle.markdown_defs.specs.declared.definitions.RefDefsIter.{RefDefsIter}
-- footnotes
pub use Rattle.markdown_defs.specs.Footnotes.{footnote_at}
pub use Rattle.markdown_defs.specs.FootnoteCounts.{unused, unused_at, used_once_more}
pub use Rattle.markdown_defs.specs.FootnoteLending.{LendsDefined, LendsFootnote}
pub use Rattle.markdown_defs.specs.declared.footnotes.FootnoteDef.{FootnoteDef}
pub use Rattle.markdown_defs.specs.declared.footnotes.FootnoteDefs.{FootnoteDefs}
pub use Rattle.markdown_defs.specs.declared.footnotes.Absence.{Absence}
-- laws of look-ups
pub use Rattle.markdown_defs.specs.LookUpLaws.{FindsFirstMatch, FindsNamed, MatchingKeysAgree}
pub use Rattle.markdown_defs.specs.LookUpLaws.{MatchingNamesAgree, TestsMatching, IsFirstMatch, NoneMatches}
pub use Rattle.markdown_defs.specs.LookUpLaws.{IsAmongNames, Matches}
-- the parts that items refer to by number
pub use Rattle.markdown_defs.specs.Allocations.{Allocated, LinkParts}
pub use Rattle.markdown_defs.specs.AllocationCalls.{HoldsParts, HasCow, HasLink, HasAlignment, HasHeading, with_cow}
pub use Rattle.markdown_defs.specs.AllocationCalls.{with_link, with_alignment, with_heading, LeavesEmptyCow}
pub use Rattle.markdown_defs.specs.AllocationCalls.{LeavesEmptyLink, LeavesEmptyAlignment, IsEmptyLink}
-- the questions to a callback, and its answers
pub use Rattle.markdown_base.specs.Questions.{Question, Answer, Answers}
pub use Rattle.markdown_defs.specs.Callback.{Asks}
pub use Rattle.markdown_defs.specs.CallbackViews.{question_of, answer_of}
pub use Rattle.markdown_defs.specs.declared.callback.BrokenLink.{BrokenLink}
pub use Rattle.markdown_defs.specs.declared.callback.Closure.{Closure}
pub use Rattle.markdown_defs.specs.declared.callback.DefaultBrokenLinkCallback.{DefaultBrokenLinkCallback}
