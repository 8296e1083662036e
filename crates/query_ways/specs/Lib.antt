-- What the contracts of `query_ways` cite.
pub mod Inner
