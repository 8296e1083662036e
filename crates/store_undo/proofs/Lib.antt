-- The laws of taking nodes back and of how a call ends, lowest first.
pub mod Undoing
pub mod Finishing
pub mod Done
