-- Laws of the rules on descriptors and masks, and that they are the rules of the definition.
pub mod Small
pub mod Scopes
pub mod OnDescriptors
pub mod Methods
pub mod Verdict
