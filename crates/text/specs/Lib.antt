pub mod Zero
pub mod AsciiText
pub mod Steps
