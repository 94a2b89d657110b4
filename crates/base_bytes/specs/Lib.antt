-- Numbers in bytes, bytes written over others, records on bytes, and the lent work area as a memory.
pub mod Bytes
pub mod Records
pub mod Memory
