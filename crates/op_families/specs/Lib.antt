-- What the contracts of `op_families` cite.
pub mod Inner
