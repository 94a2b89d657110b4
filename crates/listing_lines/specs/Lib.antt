-- The lines of what `watch` prints (document 01, "Bench sheet"): numbers and words as text, and each line. What the functions' contracts cite besides: text put into a lent buffer, and records by their offset.
pub mod Text
pub mod Lines
pub mod Puts
pub mod Offsets
