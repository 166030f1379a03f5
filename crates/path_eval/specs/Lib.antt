-- Which terms property paths lead to: what contracts say of it.
pub mod Automaton
pub mod Directions
pub mod Links
pub mod Numbered
pub mod TermNumbers
pub mod Visits
