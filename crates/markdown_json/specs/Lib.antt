-- Events in JSON, what `push_json` leaves in the string, and pieces of JSON.
pub mod Json
pub mod JsonLines
pub mod JsonLaws
pub mod JsonPieces
-- the terms of private clauses
pub mod JsonParts
-- Definitions of other crates that the clauses cite.
pub use Rattle.markdown_base.specs.Event
pub use Rattle.markdown_out.specs.ByteLists
pub use Rattle.markdown_out.specs.StringAppends
pub use Rattle.json.specs.Text
