-- Devices that bytes come from and go to: what contracts say of them.
pub mod Calls
pub mod Causes
pub mod Content
pub mod Counted
pub mod Documents
pub mod Held
pub mod Kept
pub mod Named
pub mod Streams
pub mod Sunk
