-- The command is one whose matches clap defines.
pub mod CommandLineLemmas
