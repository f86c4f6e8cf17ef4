pub mod HtmlTagLemmas
pub mod RawHtmlLemmas
pub mod TagSourceLemmas
pub mod TagTextLemmas
pub mod RawHtmlLawsLemmas
