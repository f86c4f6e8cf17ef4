-- Lemmas on what is appended to a page, and on what is read of a line.
pub mod AppendedPartsLemmas
pub mod EscapedTextLemmas
pub mod FileNameLemmas
pub mod LineLemmas
pub mod LinesLemmas
pub mod QuotedLemmas
pub mod ValueLemmas
