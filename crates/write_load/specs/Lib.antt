-- The load of card 12: what a call answers and leaves, what the card claims, and what the function that grows a tree does.
pub mod Loads
pub mod Card12
pub mod Growing
