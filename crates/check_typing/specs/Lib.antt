-- What the functions of the typing pass are proved equal to, beside the definition (document 01, "Typing").
pub mod Turns
pub mod Faults
