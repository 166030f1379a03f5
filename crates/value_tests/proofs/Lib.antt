pub mod FirstLaws
pub mod LanguageLaws
pub mod OrderLaws
pub mod PathLaws
pub mod RangeLaws
