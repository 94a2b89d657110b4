-- What a run of an image will need (document 02, card 10).
pub mod Faults
pub mod Forecasts
