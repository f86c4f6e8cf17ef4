-- what a page is written as
pub mod PageStyle
pub mod PageHtml
pub mod EscapedText
-- where its title comes from
pub mod MetadataTitle
pub mod FileTitle
