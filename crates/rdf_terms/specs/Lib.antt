-- Terms, triples and graphs: what contracts say of them.
pub mod Answers
pub mod Graph
pub mod Members
pub mod Nodes
pub mod ObjectOrder
pub mod Set
pub mod Statement
pub mod Term
pub mod TermHash
pub mod TermOrder
pub mod Vocab
