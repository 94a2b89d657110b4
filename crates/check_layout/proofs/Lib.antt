-- The laws that turn tests on numbers into the definition's, and the tables into its layout; and the stages of the loop over the records.
pub mod Repeats
pub mod RecordFields
pub mod Narrow
pub mod Sections
pub mod Kept
pub mod Marked
pub mod NewTypes
pub mod Steps
pub mod Entering
pub mod Going
pub mod Stages
