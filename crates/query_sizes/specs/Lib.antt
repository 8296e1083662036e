-- What the contracts of `query_sizes` cite.
pub mod NodeSizes
pub mod Inner
