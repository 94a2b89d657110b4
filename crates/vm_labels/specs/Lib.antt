-- Parts of what a pointcut's children are.
pub mod PointcutChildren
