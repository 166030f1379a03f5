-- IRIs that standards give a meaning, in modules named by their usual prefix.
pub mod Rdf
pub mod Rdfs
pub mod Sh
pub mod Xsd
