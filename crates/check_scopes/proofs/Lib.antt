-- Laws of the places where children stand, and of what a match binds.
pub mod ChildSettings
pub mod Bindings
