pub mod FlatLaws
pub mod CheckLaws
