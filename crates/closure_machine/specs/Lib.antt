-- The closure machine: the calculus's runs without substitution.
pub mod Closure
pub mod Machine
pub mod Measure
