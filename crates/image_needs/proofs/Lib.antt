-- What is said of an image follows from its program (document 02, card 10), and its numbers fit in 32 bits.
pub mod Class
pub mod Faultless
pub mod Known
pub mod TwoFaults
pub mod Fits
