pub mod Hosts
pub mod PageRows
pub mod PagesRows
pub mod Makes
pub mod OneReply
pub mod Passing
pub mod Causes
pub mod Listed
