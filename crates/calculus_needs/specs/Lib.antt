-- What a run of a program will need, worked out from its tree (document 02, card 10), and what a run has used.
pub mod Numbers
pub mod Here
pub mod Class
pub mod Needs
pub mod Used
pub mod Claims
