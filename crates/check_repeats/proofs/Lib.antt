-- Laws of refusal 8: tests at every number below a bound, the bits of a word, the filter of keys.
pub mod Below
pub mod Bits
pub mod Filter
