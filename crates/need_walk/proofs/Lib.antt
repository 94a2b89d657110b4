-- The walk answers the numbers of the calculus's definition.
pub mod Folds
pub mod Shapes
pub mod Rounds
pub mod Modes
pub mod Cut
pub mod Positions
pub mod Walked
