-- The laws of `file_read`.
pub mod Recording
pub mod Walks
pub mod Tables
pub mod Contents
