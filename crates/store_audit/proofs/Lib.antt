-- The laws of Audit, lowest first.
pub mod Rows
pub mod Entering
pub mod Verdict
pub mod Deciding
pub mod Counting
pub mod Testing
