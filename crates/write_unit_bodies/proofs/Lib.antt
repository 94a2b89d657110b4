-- A copy of an image in which low watches have units for bodies: it is laid out, and its program is the stripped one.
pub mod Apart
pub mod Watches
pub mod Copied
pub mod Trees
pub mod Reading
