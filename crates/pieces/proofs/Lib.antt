pub mod Put
pub mod Texts
pub mod Masks
