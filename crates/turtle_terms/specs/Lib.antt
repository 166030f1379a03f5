-- What the tokens of Turtle mean.
pub mod Answers
pub mod Appending
pub mod Keywords
pub mod Literals
pub mod Names
pub mod References
pub mod Strings
