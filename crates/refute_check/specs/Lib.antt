-- Steps of resolution: what contracts say of them.
pub mod Refusals
