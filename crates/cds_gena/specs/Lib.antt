pub mod Asked
pub mod Leased
pub mod Served
pub mod SidText
pub mod Subscribed
pub mod SubscribedLaws
pub mod Written
pub mod WrittenLaws
