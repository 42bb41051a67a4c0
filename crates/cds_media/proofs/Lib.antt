pub mod Pieces
pub mod Stands
pub mod Spelling
pub mod Exact
pub mod Counting
pub mod Slices
