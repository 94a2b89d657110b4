-- What the fields of a record are, in the bytes that they occupy.
pub mod Fields
