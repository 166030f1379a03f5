pub mod CutLaws
pub mod FillingLaws
pub mod Fronts
pub mod Samples
pub mod TokenTable
pub mod Unique
