-- Literals, clauses and stores: what contracts say of them; and resolution, over clauses read as sets of literals.
pub mod Chained
pub mod Clauses
pub mod Lists
pub mod Stored
