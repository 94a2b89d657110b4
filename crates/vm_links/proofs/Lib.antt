-- Card 4: a link is its two bytes, and all of them; the words that the machine writes with links are those of which this is said.
pub mod Links
pub mod Stores
