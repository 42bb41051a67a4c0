mod Sums
pub mod Lists
pub mod Standing
pub mod Keeps
