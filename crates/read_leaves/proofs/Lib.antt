-- Laws of the leaves of plain types.
pub mod PlainTypes
