-- Laws of marks and their advice, and the proofs of the functions.
pub mod Matched
pub mod Advised
pub mod Marked
pub mod Stayed
