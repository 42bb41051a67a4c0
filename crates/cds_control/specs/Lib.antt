pub mod Published
pub mod Capabilities
pub mod Answering
pub mod Making
pub mod Replies
pub mod Laws
pub mod Examples
