-- Datatypes: lexical forms, the integers that they denote, and what SHACL asks of literals.
pub mod Forms
pub mod Literals
