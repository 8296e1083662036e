-- What the contracts of `query_walk` cite.
pub mod Inner
