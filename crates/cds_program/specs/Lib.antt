pub mod Announcing
pub mod Command
