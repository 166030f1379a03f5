-- Which nodes paths can lead to, and what atoms of paths come down to.
pub mod LeadingTests
pub mod Lists
pub mod PathParts
pub mod PossibleNodes
