-- What the functions of refusal 8 are proved equal to: equal types as tests on numbers, and the keys by which types are told apart.
pub mod NewTypes
pub mod Keys
