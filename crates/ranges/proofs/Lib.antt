pub mod Sections
pub mod Measure
pub mod Offsets
