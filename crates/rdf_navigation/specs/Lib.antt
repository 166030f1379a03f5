-- Values of properties, SHACL lists, SHACL subclasses and instances: what contracts say of them.
pub mod CellKind
pub mod Instances
pub mod ListTable
pub mod Lists
pub mod Numbers
pub mod Values
