-- What a call that writes the fixed form of an image answers and leaves.
pub mod Calls
