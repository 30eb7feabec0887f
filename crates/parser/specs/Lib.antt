pub mod Inst
