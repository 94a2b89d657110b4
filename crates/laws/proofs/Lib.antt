-- Laws of truths, of tests and of lists that many crates cite; and of walks by hand: what is lent again, and where locals stand.
pub mod Booleans
pub mod Tests
pub mod Lists
pub mod Lookup
pub mod Lending
pub mod Locals
