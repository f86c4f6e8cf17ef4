-- the builder, and the calls of it
pub mod OpenBlocks
pub mod CodeLines
pub mod HeldSources
pub mod Fitting
pub mod Fits
pub mod LeafGrowth
pub mod LeafTrees
pub mod TableRows
-- what the pass keeps between lines
pub mod ListLooseness
pub mod Paragraphs
pub mod TakenDefinitions
pub mod Stretches
pub mod Containers
pub mod ParagraphItems
pub mod Closable
pub mod ParagraphSteps
-- the blocks that it stands for
pub mod Frames
pub mod Readable
pub mod Settled
pub mod ReachedFrames
pub mod OpenedFrames
pub mod Closing
pub mod OpenLeaves
pub mod Standing
pub mod ReachedLines
pub mod TextLines
pub mod Beginning
pub mod PassSteps
pub mod TableHeads
pub mod ReachedTables
