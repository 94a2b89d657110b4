-- What the halves of each room have in use, charged.
pub mod Pools
