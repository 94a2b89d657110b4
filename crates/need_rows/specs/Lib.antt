-- Pieces, row by row (document 02, card 10).
pub mod Pieces
