-- Laws of a pointcut's children, and the proofs of the functions.
pub mod Entering
pub mod Taking
pub mod Labelling
