-- The walk over the terms of an image (document 02, card 10): what it is asked, and what it answers.
pub mod Counted
