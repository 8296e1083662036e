-- What the contracts of `table` cite, and what document 01's mixing table held.
pub mod Own
pub mod Start
pub mod Held
pub mod Probe
pub mod Entered
pub mod Inner
