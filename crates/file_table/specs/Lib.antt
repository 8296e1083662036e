-- What the contracts of `file_table` cite.
pub mod Inner
