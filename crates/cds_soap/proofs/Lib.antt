mod AnswerBodies
pub mod AnswersBack
mod Asking
mod Envelopes
mod Fields
mod Heads
mod Joined
pub mod Lengths
mod Looking
mod Naming
pub mod OneAnswer
mod Printed
mod Replies
mod RequestBodies
pub mod RequestsBack
mod Saying
mod Shells
mod Visible
