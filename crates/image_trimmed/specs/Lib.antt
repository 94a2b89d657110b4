-- Images with the same records by their known fields, and an image trimmed to these (document 02, card 1, "Longer records from newer writers").
pub mod SameRecords
pub mod Trimmed
pub mod Places
