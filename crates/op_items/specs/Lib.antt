-- What the contracts of `op_items` cite.
pub mod Inner
