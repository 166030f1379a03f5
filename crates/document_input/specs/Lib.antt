pub mod NamedDocument
pub mod Notes
pub mod Parsing
pub mod Reading
pub mod Told
