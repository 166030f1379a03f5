-- The nodes that targets select: what contracts say of them.
pub mod Selection
