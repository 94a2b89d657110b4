-- What `watch` prints (document 01, "Bench sheet"): the listing of a call, and the sheet's own call.
pub mod Listing
pub mod Conformance
