pub mod BlockBeginningsLemmas
pub mod OpeningLemmas
pub mod GrowthLemmas
pub mod AddedCellsLemmas
pub mod InlineItemsLemmas
pub mod MadeLaterLemmas
