pub mod Parse
pub mod Fresh
