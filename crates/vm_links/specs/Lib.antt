-- The machine's links, on the bytes (document 02, card 4).
pub mod Links
