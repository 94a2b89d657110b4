-- A term of an image: its fields as the program sees them, and the walk that enters its types.
pub mod Located
