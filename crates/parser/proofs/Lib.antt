pub mod InstLaws
