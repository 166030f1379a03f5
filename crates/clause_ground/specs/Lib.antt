-- Which premises a problem needs, and what the assignments say that make them true.
pub mod Grounds
pub mod Growth
pub mod Models
pub mod Needed
pub mod Premises
pub mod RootClauses
