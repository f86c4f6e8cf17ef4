-- how a document reads
pub mod Elements
pub mod Reading
pub mod ReadingLaw
pub mod QuestionLaws
-- how a text reads, by definition
pub mod DocumentOfText
pub mod ReadingOfText
pub mod TextLaw
-- the terms of contracts
pub mod ParserLeft
pub mod Slices
pub mod NextGives
pub mod CountsLaw
pub mod Runs
-- laws of the events of a whole document
pub mod Balanced
pub mod NoLinkInLinkEvents
pub mod LookUps
pub mod ResolvedDocument
pub mod TreeReading
pub mod SlicesOfTree
pub mod ResolvedShapes
pub mod LimitLaw
pub mod WholeRun
-- the representation: a walk over an arena
pub mod Walk
pub mod WalkTotals
pub mod Standing
pub mod OneForest
-- the terms of private contracts
pub mod WalkSteps
pub mod Moves
