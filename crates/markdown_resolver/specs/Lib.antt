-- what a chain is resolved to
pub mod Closes
pub mod PassOne
pub mod ChainCounts
pub mod PutsTrees
pub mod ReadOn
pub mod ReadsItem
pub mod Resolved
pub mod Kept
pub mod Unread
pub mod KeptChains
pub mod Laws
pub mod ChainQuestions
pub mod NestedChains
pub mod SlicesInPlace
-- what a resolver guarantees to a walk, and requires of it
pub mod Chains
pub mod BlocksAbove
-- the terms of private contracts
pub mod LiteralText
pub mod Rewritten
pub mod ClosedOver
pub mod ChainPlace
pub mod BracketKinds
pub mod ReadsBracket
pub mod ReadsChain
pub mod StoredText
pub mod PutCode
pub mod MarkupItems
