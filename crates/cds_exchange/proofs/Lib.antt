pub mod OneReading
pub mod Showing
pub mod Light
pub mod Rows
pub mod Honest
pub mod Moments
pub mod Bases
pub mod Histories
