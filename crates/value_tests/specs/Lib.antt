pub mod GoodNodes
pub mod LanguageRanges
pub mod FirstTerms
pub mod RangePlaces
