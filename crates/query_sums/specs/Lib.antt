-- What the contracts of `query_sums` cite.
pub mod Inner
