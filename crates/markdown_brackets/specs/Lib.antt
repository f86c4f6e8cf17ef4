-- what a closing bracket finds
pub mod Separator
pub mod TitleView
pub mod LinkTail
pub mod LinkTailView
pub mod Reference
pub mod ReferenceView
pub mod Lookup
pub mod LookupView
pub mod LookupLaws
pub mod TargetOrigins
pub mod FootnoteUse
pub mod Wikilink
pub mod WikilinkView
-- waiting openers
pub mod Openers
pub mod OpenerStack
-- the effect of brackets on a chain
pub mod LeftList
pub mod BracketDecision
pub mod ClosingBracket
pub mod ReadChain
pub mod BracketLaws
pub mod QuestionsAsked
pub mod QuestionEnds
pub mod BracketNotes
pub mod NoLinkInLink
pub mod BracketWeight
pub mod KeptShapes
pub mod ChainBegins
pub mod QuietItems
-- brackets of an arena
pub mod ChainHeld
pub mod ChainAhead
pub mod HeldOpeners
pub mod SpentEnds
pub mod WikilinkNodes
pub mod DecisionView
pub mod Finish
pub mod Decides
-- for private clauses
pub mod WrittenView
pub mod StandsAt
pub mod SecondBracket
pub mod TitleText
pub mod TitlePart
