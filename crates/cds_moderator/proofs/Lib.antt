pub mod Pending
pub mod Moderated
pub mod Spans
