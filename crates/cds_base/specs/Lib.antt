pub mod Characters
pub mod Escape
pub mod Limits
pub mod Number
pub mod Reference
pub mod Runs
