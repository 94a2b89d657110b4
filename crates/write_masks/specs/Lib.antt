-- A mask of high domains, and when it is no set of high domains (document 02, card 13).
pub mod Masks
