-- The laws of Save.
pub mod Saves
