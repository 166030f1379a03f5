-- The statements of Turtle over their tokens, and what they mean.
pub mod Answers
pub mod Grammar
pub mod Lexicon
pub mod Meaning
pub mod Names
pub mod Running
pub mod Terms
pub mod Statements
