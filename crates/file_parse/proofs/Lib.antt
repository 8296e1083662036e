-- The laws of reading one record.
pub mod Taking
