-- Laws of the frame and of the sheet's call, and the proofs of the functions.
pub mod Frame
pub mod Listed
