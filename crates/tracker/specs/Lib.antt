pub mod Entries
pub mod Hints
pub mod Track
