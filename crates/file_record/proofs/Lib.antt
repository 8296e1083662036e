-- The laws of writing records.
pub mod Laying
