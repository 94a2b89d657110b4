-- The fields that a code tells are the kind's; a record that stands in an image has them.
pub mod Told
pub mod Standing
