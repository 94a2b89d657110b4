-- The bytes of log and report (document 01, "A run").
pub mod Records
pub mod Written
pub mod Read
pub mod OfRun
pub mod Fits
