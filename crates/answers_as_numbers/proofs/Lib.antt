-- Laws of recordings, examples of them, and the proofs of the functions.
pub mod Recordings
pub mod Examples
