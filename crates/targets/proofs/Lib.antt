pub mod SelectionLaws
pub mod TargetLaws
pub mod ValueLaws
