-- Laws of the table of shapes, and of numbers made of two.
pub mod Tables
pub mod Joined
