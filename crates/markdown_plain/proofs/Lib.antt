-- laws on the open blocks, and on what containers take of a line
pub mod Names
pub mod LeafTreesLemmas
pub mod ShownRowsLemmas
pub mod ContainersLemmas
-- on lines that are taken, and on when lists become loose
pub mod ParagraphTreesLemmas
pub mod ClosableLemmas
pub mod DefinitionsLemmas
pub mod DelimiterRowsLemmas
pub mod OpenListsLemmas
-- on what a line makes of blocks, some of which are open
pub mod FramesLemmas
pub mod BegunLemmas
pub mod ReachedFramesLemmas
pub mod AddedCellsLemmas
-- on open containers, and on blocks that are appended inside them
pub mod ClosedFramesLemmas
pub mod OpenedFramesLemmas
-- on open containers: which lists are loose, and which containers end with a blank line
pub mod ClosingDownLemmas
-- on leaves in open containers
pub mod LinedLeavesLemmas
pub mod OpenTablesLemmas
pub mod HeldLinesLemmas
pub mod ParagraphsInPlaceLemmas
-- on what the pass stands for between two lines
pub mod BlankStandingLemmas
pub mod TextReachedLemmas
pub mod AddedRowsLemmas
pub mod PlacedTablesLemmas
-- on lines that are text
pub mod FoundBlocksLemmas
pub mod TurnsLemmas
pub mod ReadyTextsLemmas
-- on blocks that begin with the rest of a line
pub mod BegunContainersLemmas
pub mod BegunLeavesLemmas
pub mod BegunItemsLemmas
-- on what is found there, and on what is made of it turn by turn
pub mod FoundPlacesLemmas
pub mod UnderlinesLemmas
-- on calls that fit, and on readiness between two lines
pub mod ReadyLinesLemmas
-- on a whole text
pub mod WholeTextsLemmas
