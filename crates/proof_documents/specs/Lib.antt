-- Documents of claims: their text, and what they do to data.
pub mod Applying
pub mod Document
pub mod DocumentText
pub mod Lines
pub mod Refusing
pub mod Spaces
pub mod Stages
pub mod Taking
pub mod Text
