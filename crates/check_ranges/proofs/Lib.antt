-- Laws of refusals 4 to 7.
pub mod Numbers
pub mod Lengths
pub mod RangeLoops
pub mod Frequent
pub mod Taken
