pub mod Promise
pub mod Inner
