-- What the grammars of N-Triples and Turtle share, and what contracts say of its readers.
pub mod Answers
pub mod Lawful
pub mod Productions
pub mod Reading
