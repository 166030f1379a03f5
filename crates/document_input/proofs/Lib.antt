pub mod Errors
pub mod Unrefused
