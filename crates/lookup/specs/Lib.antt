pub mod Run
pub mod Find
