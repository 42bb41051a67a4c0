pub mod Examples
pub mod Summary
pub mod Tally
