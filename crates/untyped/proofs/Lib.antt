pub mod KindLaws
pub mod Walk
pub mod One
pub mod Carried
pub mod Values
pub mod LiteralLaws
pub mod SlotLaws
pub mod RowLaws
