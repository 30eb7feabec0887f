pub mod Breaks
pub mod Choice
pub mod Faultless
pub mod Fittings
pub mod Range
pub mod Store
pub mod Answered
