-- Directed graphs: walks, what is reached, circles and depths, over any type of nodes; and graphs over numbers.
pub mod Depth
pub mod Digraph
pub mod Labels
pub mod Reach
pub mod Search
pub mod Settling
pub mod Spans
pub mod Walk
