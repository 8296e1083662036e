-- What the contracts of `store_sides` cite.
pub mod Inner
