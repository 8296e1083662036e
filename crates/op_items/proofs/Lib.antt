-- The law of the step.
pub mod Splits
