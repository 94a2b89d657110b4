-- Laws of the tables of an image, of what the fields of a term hold, of entries, of descriptors and of masks.
pub mod Descriptors
pub mod Lists
pub mod Masks
pub mod Counts
pub mod Matches
pub mod Elimination
pub mod Located
pub mod TypeDomains
pub mod Described
pub mod Listed
pub mod Ranges
pub mod TypeRecords
pub mod Stated
