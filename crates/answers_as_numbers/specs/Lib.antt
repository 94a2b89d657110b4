-- Answers as one number, the numbers of a forecast in lent places, and the calls of a recording.
pub mod Numbers
pub mod Forecasts
pub mod Recordings
