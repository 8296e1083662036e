-- The laws of `combination`.
pub mod Given
pub mod Places
