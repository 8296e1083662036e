-- The laws of `file_write`.
pub mod Cursors
pub mod Writes
