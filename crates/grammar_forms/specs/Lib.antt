-- How grammars are written, and how what is written so is read.
pub mod Exact
pub mod Forms
pub mod Names
pub mod Reading
