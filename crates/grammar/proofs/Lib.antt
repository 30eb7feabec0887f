pub mod Carried
pub mod FindLaws
pub mod IndexLaws
pub mod ItemLaws
pub mod KnownLaws
pub mod MarkLaws
pub mod SearchLaws
