-- N-Triples and its canonical form: what contracts say of the reader and the writer.
pub mod CanonicalText
pub mod Cutting
pub mod Feeding
pub mod Lines
pub mod NTriples
pub mod Reading
pub mod RoundTrip
pub mod Text
