pub mod Draws
pub mod Examples
pub mod Generated
pub mod History
pub mod Language
pub mod Library
pub mod Writing
