-- What a part of a turn promises.
pub mod Phases
