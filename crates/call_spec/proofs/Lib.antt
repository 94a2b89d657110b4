-- Leaves in slots, a call by its verdict, and runs of accepted images.
pub mod Slots
pub mod Called
pub mod Accepted
