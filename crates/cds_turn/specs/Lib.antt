pub mod Line
pub mod Moves
pub mod Turn
