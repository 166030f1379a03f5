pub mod Found
pub mod Grown
pub mod Listed
pub mod Moving
pub mod United
