pub mod Attempts
pub mod Loads
pub mod Outcome
pub mod Seen
pub mod Server
pub mod Stages
