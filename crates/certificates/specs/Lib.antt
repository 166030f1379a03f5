-- When a document is accepted, why it is not, and what an accepted one shows.
pub mod Checker
pub mod Checks
pub mod Members
pub mod Reasons
pub mod Shown
pub mod Steps
pub mod Writing
