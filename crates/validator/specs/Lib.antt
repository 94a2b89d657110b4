-- A verdict in numbers.
pub mod Numbers
