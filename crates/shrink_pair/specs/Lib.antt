-- What a proof of an explanation is, and what a session of the search for one keeps.
pub mod Explanations
pub mod Sessions
