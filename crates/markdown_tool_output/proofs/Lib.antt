-- Lemmas on what is written for texts, on the metadata before a text, and on steps.
pub mod ConversionLemmas
pub mod FileTextLemmas
pub mod MetadataLemmas
pub mod OutputsLemmas
pub mod StepsLemmas
