pub mod Spell
pub mod Stores
pub mod Place
pub mod Orders
