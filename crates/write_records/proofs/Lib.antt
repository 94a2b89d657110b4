-- Records, number by number.
pub mod Numbers
