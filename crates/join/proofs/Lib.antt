pub mod PieceLaws
pub mod ItemLaws
pub mod JoinLaws
pub mod MergeLaws
pub mod OrderLaws
pub mod StepLaws
pub mod UnionLaws
pub mod WalkLaws
