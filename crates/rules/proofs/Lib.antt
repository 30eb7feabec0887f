pub mod RuleLaws
pub mod ApartLaws
