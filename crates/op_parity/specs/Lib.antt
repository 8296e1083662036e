-- What the contracts of `op_parity` cite.
pub mod Promise
pub mod Inner
