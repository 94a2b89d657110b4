-- Records one behind the other, and a type's record field by field.
pub mod Firsts
pub mod Numbered
