-- The laws of `file_table`.
pub mod Entries
pub mod Accepting
