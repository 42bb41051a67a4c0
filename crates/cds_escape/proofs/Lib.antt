pub mod Cuts
pub mod Pieces
pub mod References
pub mod Semicolons
