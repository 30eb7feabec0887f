pub mod Writing
pub mod Sentences
pub mod Recorded
