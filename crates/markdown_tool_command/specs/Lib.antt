-- the words of the command line, and the request that they make
pub mod Choices
pub mod Lists
pub mod Extensions
pub mod Requests
pub mod CommandLine
-- the terms of private clauses
pub mod ExtensionRows
