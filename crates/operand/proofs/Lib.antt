pub mod Laws
pub mod LogLaws
