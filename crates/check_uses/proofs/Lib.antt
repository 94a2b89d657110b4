-- Laws of the marks: one child after another, how often a term is used, how deep it can be.
pub mod Below
pub mod ChildByChild
pub mod UseCounts
pub mod Heights
