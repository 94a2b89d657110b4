-- What the readers of terms are lent, and what the fields of a term, the descriptor of a type and the masks of the domains say.
pub mod Lent
pub mod Fields
pub mod Descriptors
pub mod Masks
pub mod Methods
pub mod Lower
