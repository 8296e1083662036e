-- What the contracts of `store_undo` cite.
pub mod Inner
