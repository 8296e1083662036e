-- What the contracts of `store_audit` cite.
pub mod Promise
pub mod Inner
