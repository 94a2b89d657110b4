-- The code that both passes make is the threaded code of the program, and the machine's run of an accepted image is the calculus's run of its program.
pub mod Depths
pub mod Kept
pub mod Linked
pub mod Made
pub mod Nodes
pub mod PassDown
pub mod PassUp
pub mod Records
pub mod Says
pub mod Surrounds
pub mod Theorem
pub mod Words
pub mod Tables
pub mod Machine
