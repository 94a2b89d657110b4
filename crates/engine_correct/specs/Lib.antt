-- The machine's run of an image, and the table that its code stands for.
pub mod Machine
pub mod TableOf
