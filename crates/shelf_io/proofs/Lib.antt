pub mod Gains
pub mod Listed
pub mod Named
pub mod Places
pub mod Pulled
