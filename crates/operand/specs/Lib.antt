pub mod Parts
pub mod Log
