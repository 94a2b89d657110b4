-- The terms of an image by their numbers, and the lowest that may not stand where it does (document 02, card 10).
pub mod GivenToChildren
pub mod First
