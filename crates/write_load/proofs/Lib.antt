-- What follows a draw, a tree that is written record by record, the room for it, the whole image, and the card's theorem.
pub mod Draws
pub mod Growing
pub mod Capacities
pub mod Whole
pub mod Theorem
