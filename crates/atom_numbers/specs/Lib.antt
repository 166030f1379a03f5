-- Numbers of atoms, and clauses in these numbers.
pub mod Numbers
