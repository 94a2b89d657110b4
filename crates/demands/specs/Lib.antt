-- What the demands say of images and of whole calls.
pub mod Calls
pub mod SameBytes
pub mod Compare
pub mod Trimmed
pub mod LowMethods
pub mod LowTakedowns
pub mod Unpaid
pub mod Branches
pub mod MainlineCapacity
pub mod NewestFirst
pub mod Forecast
pub mod Fixed
pub mod Stripped
