pub mod NumberedWalks
pub mod PartLaws
pub mod PathLaws
