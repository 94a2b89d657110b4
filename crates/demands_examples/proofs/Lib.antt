-- By computation: the bench sheet, for each claim calls that meet its premises, and images at the limit of depth.
pub mod UnpaidExample
pub mod Conformance
pub mod Mainline
pub mod Example
pub mod CapacityExample
pub mod NewestFirstExample
pub mod ForecastExample
pub mod DepthExample
