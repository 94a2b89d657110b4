-- Laws of codes, of descriptors, of what the record reader answers, of the part of an image that a record's fields occupy, and of entries.
pub mod Codes
pub mod Classes
pub mod Clipped
pub mod Descriptors
pub mod Heads
pub mod Parts
pub mod Entries
