-- Refusals 2 to 16 with the tables that they leave; refusals 1 to 18 of a call.
pub mod Examined
pub mod Calls
