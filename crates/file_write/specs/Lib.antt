-- What the contracts of `file_write` cite.
pub mod Inner
