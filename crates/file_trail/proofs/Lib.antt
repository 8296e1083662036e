-- The laws of `file_trail`.
pub mod Links
pub mod Trails
pub mod Walking
