pub mod UsedLaws
pub mod TypeLaws
