pub mod InstanceLaws
pub mod ListLaws
pub mod NumberLaws
pub mod Places
pub mod PropertyLaws
pub mod ReachLaws
pub mod TableLaws
