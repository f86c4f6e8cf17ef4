-- the definitions that contracts cite
pub mod HtmlOfText
pub mod Rendering
pub mod RenderingFor
pub mod Words
pub mod Outcome
pub mod Merged
pub mod ParserHtml
