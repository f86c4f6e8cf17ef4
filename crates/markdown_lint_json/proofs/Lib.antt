-- Lemmas of the lines, by the views of what they show, and of what is asked where nothing is answered.
pub mod BrokenLemmas
pub mod LintJsonLemmas
pub mod PlacedEventsLemmas
pub mod UnansweredLemmas
