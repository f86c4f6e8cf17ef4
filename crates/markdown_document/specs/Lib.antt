-- what resolving chains depends on, and how items read
pub mod Setting
pub mod Origins
pub mod LinkTitle
pub mod LinkOrigins
pub mod Tables
pub mod Document
pub mod EnclosingBlocks
pub mod Waiting
pub mod Counts
-- the terms of laws on nodes
pub mod TreeNodes
pub mod ChainRest
-- the representation: the items of an arena, by the numbers of its nodes
pub mod Totals
pub mod NamedEntries
pub mod ItemRules
pub mod Places
pub mod PlacedNodes
pub mod PlacedOneWay
pub mod ResolverStates
