-- What each function of the library answers as one number.
pub mod Numbers
