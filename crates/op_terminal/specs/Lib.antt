-- What the contracts of `op_terminal` cite.
pub mod Inner
