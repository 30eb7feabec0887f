-- The demands, as theorems over the definitions
pub mod Demand1
pub mod Demand3
pub mod Standing
pub mod Agree
-- choices, lists, bytes, kinds, the layout table, stores
pub mod Choice
pub mod Lists
pub mod Bytes
pub mod OperandKinds
pub mod Cells
pub mod Stores
-- what is read, from a word to an instruction
pub mod Reading
pub mod Words
pub mod Strings
pub mod Told
pub mod Formed
pub mod Operands
pub mod Rows
pub mod Instructions
-- what a load comes to, says, keeps and leaves
pub mod Runs
pub mod Starts
pub mod Numbers
pub mod Room
pub mod Rooms
pub mod Bounds
pub mod KeptSays
pub mod Kept
pub mod Returns
pub mod Prefix
pub mod Leaves
-- what its records say, and are written as
pub mod CheckBack
pub mod ReadBack
pub mod WriteBack
pub mod AnyNumbers
pub mod Indices
