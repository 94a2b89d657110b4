-- The known fields of a record, one by one, by the code of its kind.
pub mod Classes
