pub mod Laws
pub mod AsciiText
pub mod Steps
