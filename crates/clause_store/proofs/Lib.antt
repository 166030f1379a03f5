pub mod Chains
pub mod Determined
pub mod Refutation
pub mod Sets
