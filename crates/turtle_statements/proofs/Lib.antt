pub mod BracketLaws
pub mod CodeLaws
pub mod Dispatch
pub mod Executing
pub mod KindLaws
pub mod Leaves
pub mod Sentences
pub mod TermLaws
