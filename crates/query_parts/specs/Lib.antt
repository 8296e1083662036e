-- What the contracts of `query_parts` cite.
pub mod Inner
