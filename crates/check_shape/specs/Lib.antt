-- What the passes of refusals 9 to 12 (document 01, "Turned back at the gate") ask of the tables, and what they hold on their way.
pub mod Records
pub mod Faults
pub mod Depths
pub mod Checks
pub mod Counted
