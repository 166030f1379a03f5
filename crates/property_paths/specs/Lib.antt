-- Property paths in shapes graphs. What contracts say of them.
pub mod PathTable
pub mod Paths
