-- the lines of a text
pub mod Lines
pub mod LineBytes
pub mod LineBreaks
pub mod Positions
-- which block a line's content begins
pub mod AtxHeadings
pub mod CodeFences
pub mod HtmlBeginnings
pub mod HtmlKinds
pub mod ListMarkers
pub mod TableRows
pub mod ThematicBreaks
-- which extensions are read
-- what only they read
pub mod Alerts
pub mod HeadingAttributes
pub mod MetadataBlocks
pub mod TaskMarkers
-- what lines are and begin, and link reference definitions: the definition of a text's blocks rests on them
pub mod SourceLines
pub mod BlockBeginnings
pub mod DefinitionRules
-- the lines of a paragraph as they are held back, and places in them
pub mod HeldLines
pub mod HeldDefinitions
pub mod HeldPlaces
pub mod HeldTitles
pub mod HeldLabels
-- what a reader of lines finds
pub mod UnbrokenLines
pub mod UnclosedMetadata
pub mod BlockStarts
