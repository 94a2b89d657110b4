-- Parts of the definitions of stacks and keeps.
pub mod StacksAndKeeps
