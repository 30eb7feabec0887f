pub mod Front
pub mod Copying
