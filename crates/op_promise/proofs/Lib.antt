-- The laws of `op_promise`.
pub mod Refusing
pub mod Bounding
pub mod Numbering
