mod Answering
pub mod Begun
mod Documents
mod Joined
mod Literal
mod ReadBack
mod Served
pub mod Single
mod Table
mod Visible
