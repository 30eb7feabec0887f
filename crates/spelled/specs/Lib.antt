pub mod Spelled
pub mod Placing
pub mod Said
