pub mod Fronts
pub mod Lawful
pub mod Productions
pub mod QuotedText
pub mod Skipping
