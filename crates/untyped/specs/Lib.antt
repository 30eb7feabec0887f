pub mod Enums
pub mod Body
