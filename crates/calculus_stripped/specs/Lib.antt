-- A program stripped of its watches (card 13), and what its run shares with the full one.
pub mod Strip
pub mod Shared
