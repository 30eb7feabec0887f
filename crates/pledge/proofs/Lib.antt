-- The pledge, and the demands over the contracts
pub mod Pledge
pub mod Inner
pub mod Demands
-- what they are said with, and shown by
pub mod Offered
pub mod Calls
pub mod Told
