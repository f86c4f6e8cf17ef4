-- what is written for a request
pub mod FileText
pub mod Metadata
pub mod Outputs
pub mod Files
-- what a run does to files
pub mod Steps
pub mod Conversion
