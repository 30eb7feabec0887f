pub mod Passes
pub mod Calls
pub mod BookLaws
pub mod Indices
