-- The laws of what comes before the recursion, of the two sides of both operands, and of the step.
pub mod Shortcuts
pub mod Forks
pub mod Splits
