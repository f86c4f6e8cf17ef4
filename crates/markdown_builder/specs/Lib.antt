-- the terms of contracts
pub mod Bodies
pub mod TreeLevels
pub mod Shown
pub mod BuilderView
pub mod Tightness
pub mod ClosedLists
pub mod HeadingsHoldInline
pub mod EvenRows
-- the representation
pub mod Rising
pub mod BuilderRules
pub mod Levels
pub mod ForestCode
pub mod Standing
pub mod OpenRows
pub mod TreeSteps
