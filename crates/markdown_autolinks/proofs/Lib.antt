-- Lemmas: of places in a text, of where addresses end and lie, of web addresses, of places between characters, of runs,
-- and of
-- what is read.
pub mod PlaceLemmas
pub mod TailLemmas
pub mod WebLemmas
pub mod FoundLemmas
pub mod CutLemmas
pub mod RunLemmas
pub mod ReadLemmas
pub mod LinkedRunLemmas
pub mod LawLemmas
pub mod AddressLawLemmas
pub mod RangeLawLemmas
