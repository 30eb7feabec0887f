pub mod Laws
pub mod Steps
pub mod Heading
pub mod Whole
