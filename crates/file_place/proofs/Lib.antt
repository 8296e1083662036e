-- The laws of `file_place`.
pub mod Tops
pub mod Placements
