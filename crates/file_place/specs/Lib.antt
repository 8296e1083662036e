-- What the contracts of `file_place` cite.
pub mod Inner
