-- Calls by computation: branches of matches, images whose watches are taken down, a mainline that runs out of bindings, one fixed form of two images, and images without their watches.
pub mod BranchExample
pub mod TakedownExample
pub mod BindingsExample
pub mod FixedExample
pub mod StrippedExample
