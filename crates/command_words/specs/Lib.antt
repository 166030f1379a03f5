pub mod Words
pub mod WordsRefusal
