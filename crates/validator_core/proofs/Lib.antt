-- What a finished scan gives, and the verdict by its parts.
pub mod Filling
pub mod Passes
pub mod Stages
pub mod Calls
