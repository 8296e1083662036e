-- What the contracts of `file_parse` cite.
pub mod Inner
