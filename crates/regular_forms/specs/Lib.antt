-- How the forms of tokens are written, and what the longest token is.
pub mod Longest
pub mod Regular
