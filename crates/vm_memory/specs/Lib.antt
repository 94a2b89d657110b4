-- The machine's tables in the lent work area.
pub mod View
