-- What the contracts of `file_record` cite.
pub mod Widths
