-- What the contracts of `file_trail` cite.
pub mod Inner
