-- What a document of Turtle means, and why one is refused.
pub mod Documents
pub mod Loop
