pub mod Going
pub mod LawfulDocuments
pub mod LawfulTerms
pub mod OnlyAnswer
pub mod Utf8References
