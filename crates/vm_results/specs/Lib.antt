-- What the machine's tables say of a run that ended.
pub mod Ended
pub mod Gathered
