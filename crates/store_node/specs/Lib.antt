-- What the contracts of `store_node` cite.
pub mod Inner
