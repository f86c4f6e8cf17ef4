-- what iterators give, and what is written of it
pub mod GivenEventsLemmas
pub mod WrittenLemmas
pub mod NewEventsLemmas
pub mod TreeLemmas
