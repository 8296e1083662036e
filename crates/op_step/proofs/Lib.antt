-- The laws of the recursions, lowest first.
pub mod Keeping
pub mod Steps
pub mod Outcomes
