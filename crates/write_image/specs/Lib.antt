-- What is asked of an image and an output, for the image to be written anew.
pub mod Fits
