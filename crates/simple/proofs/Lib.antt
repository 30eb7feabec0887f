pub mod SimpleLaws
pub mod SimpleRows
