-- What the contracts of `file_read` cite.
pub mod Inner
