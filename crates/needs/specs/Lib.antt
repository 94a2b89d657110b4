-- What a flight will need, in 32 bits.
pub mod Known
