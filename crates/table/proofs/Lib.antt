-- The laws of the unique table, lowest first.
pub mod Held
pub mod OwnSlots
pub mod Starts
pub mod Scan
pub mod Stops
pub mod Used
pub mod Filled
pub mod Found
pub mod Examples
