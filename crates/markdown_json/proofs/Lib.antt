pub mod JsonPartsLemmas
pub mod JsonLinesLemmas
pub mod JsonLawsLemmas
