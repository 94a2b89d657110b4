-- What a call that writes an image without its watches answers and leaves.
pub mod Calls
