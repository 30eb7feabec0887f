pub mod Fields
pub mod Operands
pub mod Lowest
pub mod Pass
pub mod Read
pub mod Good
pub mod Bytes
pub mod AsciiText
