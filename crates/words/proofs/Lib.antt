-- Laws of words, and the case splits that all proofs use.
pub mod Cases
pub mod Zeroed
pub mod Tabulated
