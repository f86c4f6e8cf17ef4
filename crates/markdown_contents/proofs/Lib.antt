-- Lemmas on the headings so far, and on what one more heading makes of a table of contents.
pub mod ContentsSoFarLemmas
pub mod ContentsLemmas
-- the events of the list as HTML
pub mod HtmlListLemmas
